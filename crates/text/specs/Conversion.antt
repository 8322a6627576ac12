-- Whole texts and the streams that they stand for.
use Rattle.std.specs.Prelude.{◌≡◌, ℕ, ◌+◌, ◌<◌, ◌≤◌, true, false, if◌then◌else◌}
use Rattle.std.specs.Prelude.{List, [], ◌++◌, length, take, slice_index_or}
use Rattle.std.specs.Prelude.{is_ok, Some, None, Ok, Err, vec_items, string_bytes, codes, decimal}
use Rattle.std.specs.Prelude.{Option, Result, Vec, String, ◌==◌}
use Rattle.std.specs.List.{slice_split, flat_map, AllByRecursion}
use Rattle.std.specs.declared.alloc.Global.{Global}
use Rattle.links.specs.Refusals.{told}
use Rattle.links.specs.Words.{reason_text}
use Rattle.links.specs.declared.refusal.Refused.{Refused}
use Rattle.commands.specs.Commands.{bytes, line_of, reading}
use Rattle.commands.specs.declared.Command.{Command}
use Rattle.commands.specs.declared.TheConstants.{LONGEST_STREAM}
use Rattle.text.specs.Words.{line_without_return}
use Rattle.text.specs.Lines.{meaning, Means}
use Rattle.text.specs.Shown.{quoted}
use Rattle.text.specs.declared.BadLine.{BadLine}
use Rattle.text.specs.declared.conversion.BadText.{BadText}
use Rattle.text.specs.declared.conversion.BadText.TheVariants.{Line, TooLong, NoMemory}
use Rattle.text.specs.declared.conversion.BadStream.{BadStream}
use Rattle.text.specs.declared.conversion.BadStream.TheVariants.{At}
use Rattle.text.specs.declared.conversion.BadStream.TheVariants as bad_stream

-- the lines of a text: what stands before, between and after its line feeds
abbrev pub lines : List ℕ → List (List ℕ)
lines = slice_split (λ b. b == 10)

abbrev pub answer_bytes : Result (Option Command) BadLine → List ℕ
answer_bytes (Ok (Some c)) = bytes c
answer_bytes (Ok None) = []
answer_bytes (Err e) = []

-- the bytes of the command of a line
abbrev pub line_bytes : List ℕ → List ℕ
line_bytes line = answer_bytes (meaning line)

-- the bytes of the commands of the first k lines
abbrev pub first_bytes : List ℕ → ℕ → List ℕ
first_bytes text k = flat_map line_bytes (take k (lines text))

-- the first k lines of a text are good
abbrev pub Good : List ℕ → ℕ → Type 0
Good text k = (i : ℕ) → i < k → is_ok (meaning (slice_index_or (lines text) i [])) ≡ true

-- the stream of the commands of a text
abbrev pub stream_of : List ℕ → List ℕ
stream_of text = flat_map line_bytes (lines text)

-- the line with this number, counted from 1, is the first that is bad, and the lines before it have
-- no more bytes than a stream may have
pub record FirstBad (text : List ℕ) (number : ℕ) (line : List ℕ) : Type 0 where
  pub index : ℕ
  pub counted : number ≡ index + 1
  pub inside : index < length (lines text)
  pub line_is : line ≡ slice_index_or (lines text) index []
  pub bad : is_ok (meaning line) ≡ false
  pub before : Good text index
  pub short : length (first_bytes text index) ≤ LONGEST_STREAM

-- the lines up to one of them are good, and have more bytes than a stream may have
pub record TooMany (text : List ℕ) : Type 0 where
  pub count : ℕ
  pub inside : count ≤ length (lines text)
  pub good : Good text count
  pub more : LONGEST_STREAM < length (first_bytes text count)

-- every line is good, and this is the stream
pub record StandsFor (text stream : List ℕ) : Type 0 where
  pub good : Good text (length (lines text))
  pub bytes_are : stream ≡ stream_of text

-- a line, with its number counted from 1, was put at the end of a stream
abbrev pub Appends : List ℕ → ℕ → List ℕ → Result (Unit {0}) BadText → List ℕ → Type 0
Appends line number before (Ok done) after =
    (is_ok (meaning line) ≡ true) × (after ≡ before ++ line_bytes line)
Appends line number before (Err (Line n told)) after =
    (n ≡ number) × (told.now ≡ line) × (is_ok (meaning line) ≡ false)
Appends line number before (Err TooLong) after = ⊥
Appends line number before (Err NoMemory) after = Unit {0}

abbrev pub Encodes : List ℕ → Result (Vec ℕ Global) BadText → Type 0
Encodes text (Ok stream) =
    StandsFor text (vec_items stream) × (length (vec_items stream) ≤ LONGEST_STREAM)
Encodes text (Err (Line number line)) = FirstBad text number line.now
Encodes text (Err TooLong) = TooMany text
Encodes text (Err NoMemory) = Unit {0}

-- what a line may say, for people to read
abbrev pub forms : List ℕ
forms = codes "link A B, unlink A B, withdraw A, depart A, partner A"

-- how it is told that a text gives no stream
abbrev pub bad_text_told : BadText → List ℕ
bad_text_told (Line number line) =
    codes "line " ++ (decimal number ++ (codes ": " ++ (quoted (line_without_return line.now)
    ++ (codes " is no command (" ++ (forms ++ codes ")")))))
bad_text_told TooLong = codes "the commands come to more than 65536 bytes"
bad_text_told NoMemory = codes "no memory is left"

abbrev pub full_line : Command → List ℕ
full_line c = line_of c ++ codes "\n"

-- the text is the lines of the commands that the stream is made of, and each line means its command
pub record Spelled (stream text : List ℕ) : Type 0 where
  pub commands : List Command
  pub bytes_are : flat_map bytes commands ≡ stream
  pub text_is : text ≡ flat_map full_line commands
  pub each_means : AllByRecursion (λ c. Means (line_of c) c) commands

-- reading stops at this place, which the commands before it lead to; where the stream is too long
-- it stops at once
pub record StopsAt (stream : List ℕ) (place : ℕ) (refused : Refused) : Type 0 where
  pub before : (text : List ℕ) × Spelled (take place stream) text
  pub reason : reading stream place ≡ Some (told refused)
  pub at_once : LONGEST_STREAM < length stream → place ≡ 0

abbrev pub Decodes : List ℕ → Result (String Global) BadStream → Type 0
Decodes stream (Ok text) = Spelled stream (string_bytes text) × StandsFor (string_bytes text) stream
Decodes stream (Err (At refused place)) = StopsAt stream place refused
Decodes stream (Err bad_stream.NoMemory) = Unit {0}

-- how a refusal with this number is told; 3 is of the whole stream, and others of a place
abbrev pub refusal_told : ℕ → ℕ → List ℕ
refusal_told number place =
    if number == 3 then codes "the stream has more than 65536 bytes (refusal 3)"
    else (codes "byte " ++ (decimal place ++ (codes ": " ++ (reason_text number
    ++ (codes " (refusal " ++ (decimal number ++ codes ")"))))))

-- how it is told that a stream gives no text
abbrev pub bad_stream_told : BadStream → List ℕ
bad_stream_told (At refused place) = refusal_told (told refused).number place
bad_stream_told bad_stream.NoMemory = codes "no memory is left"
