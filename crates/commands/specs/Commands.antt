-- The commands of a stream: their bytes, their lines, and what is read from bytes.
use Rattle.std.specs.Prelude.{◌≡◌, ℕ, ◌+◌, ◌*◌, ◌/◌, ◌%◌, ◌<◌, ◌≤◌, ◌||◌, List, [], ◌∷◌, ◌++◌}
use Rattle.std.specs.Prelude.{length, drop, Some, None, Ok, Err, Option, Result, ◌==◌, nat_le}
use Rattle.std.specs.Prelude.{nat_lt, slice_index, codes, decimal, if◌then◌else◌}
use Rattle.std.specs.List.{between}
use Rattle.links.specs.Books.{by}
use Rattle.links.specs.Refusals.{Reason, Answers}
use Rattle.links.specs.declared.refusal.Layer.TheVariants.{Stream}
use Rattle.links.specs.declared.refusal.Refused.{Refused}
use Rattle.commands.specs.declared.Command.{Command}
use Rattle.commands.specs.declared.Command.TheVariants.{Link, Unlink, Withdraw, Depart, Partner}
use Rattle.commands.specs.declared.Decoded.{Decoded}
use Rattle.commands.specs.declared.TheConstants.{LONGEST_STREAM}

-- a load in two bytes, the high one first
abbrev pub two_bytes : ℕ → List ℕ
two_bytes a = a / 256 ∷ a % 256 ∷ []

abbrev pub bytes : Command → List ℕ
bytes (Link a b) = 1 ∷ two_bytes a ++ two_bytes b
bytes (Unlink a b) = 2 ∷ two_bytes a ++ two_bytes b
bytes (Withdraw a) = 3 ∷ two_bytes a
bytes (Depart a) = 4 ∷ two_bytes a
bytes (Partner a) = 5 ∷ two_bytes a

-- the line of a command, without a line feed
abbrev pub line_of : Command → List ℕ
line_of (Link a b) = codes "link " ++ (decimal a ++ (codes " " ++ decimal b))
line_of (Unlink a b) = codes "unlink " ++ (decimal a ++ (codes " " ++ decimal b))
line_of (Withdraw a) = codes "withdraw " ++ decimal a
line_of (Depart a) = codes "depart " ++ decimal a
line_of (Partner a) = codes "partner " ++ decimal a

-- the byte that says which command it is
abbrev pub code : List ℕ → ℕ
code rest = slice_index rest 0

-- the load in the two bytes from k on
abbrev pub load_at : List ℕ → ℕ → ℕ
load_at rest k = slice_index rest k * 256 + slice_index rest (k + 1)

-- the command at the start of these bytes, where there is no reason to refuse
abbrev pub decoded : List ℕ → Command
decoded rest =
    if code rest == 1 then Link (load_at rest 1) (load_at rest 3)
    else (if code rest == 2 then Unlink (load_at rest 1) (load_at rest 3)
    else (if code rest == 3 then Withdraw (load_at rest 1)
    else (if code rest == 4 then Depart (load_at rest 1)
    else Partner (load_at rest 1))))

-- 12: no command begins with this byte; 13: the bytes end inside the command
abbrev pub decoding : List ℕ → Option Reason
decoding rest =
    if code rest == 0 || nat_lt 5 (code rest) then by Stream 12
    else (if nat_lt (length rest) (length (bytes (decoded rest))) then by Stream 13 else None)

-- 3: the stream is too long
abbrev pub unless_short : List ℕ → Option Reason → Option Reason
unless_short stream otherwise =
    if nat_lt LONGEST_STREAM (length stream) then by Stream 3 else otherwise

-- the first reason to refuse to read at a place of a stream
abbrev pub reading : List ℕ → ℕ → Option Reason
reading stream place =
    unless_short stream
    (if nat_le (length stream) place then None else decoding (drop place stream))

-- a command read at a place, with the place after it
abbrev pub followed : ℕ → Command → Decoded
followed place command = record { command = command; next = place + length (bytes command) }

-- what is read at a place: no command at or past the end
abbrev pub read_at : List ℕ → ℕ → Option Decoded
read_at stream place =
    if nat_le (length stream) place then None
    else Some (followed place (decoded (drop place stream)))

-- how a reader answers
abbrev pub Reads : List ℕ → ℕ → Result (Option Decoded) Refused → Type 0
Reads stream place r = Answers (reading stream place) r (λ x. x ≡ read_at stream place)

-- a command was read from just the bytes that it is written as
pub record Spans (stream : List ℕ) (place : ℕ) (d : Decoded) : Type 0 where
  pub ahead : place < d.next
  pub within : d.next ≤ length stream
  pub written : between place d.next stream ≡ bytes d.command

abbrev pub Spanned : List ℕ → ℕ → Result (Option Decoded) Refused → Type 0
Spanned stream place (Ok (Some d)) = Spans stream place d
Spanned stream place (Ok None) = Unit {0}
Spanned stream place (Err e) = Unit {0}

-- what was written reads back as the command with the place after it, whatever stands before it
abbrev pub ReadsBack : Command → List ℕ → Result ℕ Refused → Type 0
ReadsBack command out (Ok n) =
    (before : List ℕ) → length (before ++ out) ≤ LONGEST_STREAM
    → Reads (before ++ out) (length before)
    (Ok (Some (record { command = command; next = length before + n })))
ReadsBack command out (Err e) = Unit {0}
