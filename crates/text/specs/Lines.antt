-- The command of a line.
use Rattle.std.specs.Prelude.{◌≡◌, ℕ, if◌then◌else◌, List, Some, None, Ok, Err, codes}
use Rattle.std.specs.Prelude.{Option, Result, ◌==◌}
use Rattle.std.specs.Str.{bytes_eq}
use Rattle.commands.specs.declared.Command.{Command}
use Rattle.commands.specs.declared.Command.TheVariants.{Link, Unlink, Withdraw, Depart, Partner}
use Rattle.text.specs.declared.BadLine.{BadLine}
use Rattle.text.specs.Words.{line_without_return, blank, front, word, past, unspaced, no_more}
use Rattle.text.specs.Words.{number}

abbrev pub command_of_one : List ℕ → ℕ → Option Command
command_of_one kind a =
    if bytes_eq kind (codes "withdraw") then Some (Withdraw a)
    else (if bytes_eq kind (codes "depart") then Some (Depart a)
    else (if bytes_eq kind (codes "partner") then Some (Partner a) else None))

abbrev pub command_of_two : List ℕ → ℕ → ℕ → Option Command
command_of_two kind a b =
    if bytes_eq kind (codes "link") then Some (Link a b)
    else (if bytes_eq kind (codes "unlink") then Some (Unlink a b) else None)

-- a command where there is a load, and none where there is none
abbrev pub with_load : Option ℕ → (ℕ → Option Command) → Option Command
with_load None of = None
with_load (Some a) of = of a

-- the command of a kind with the loads that the rest of its line has: one or two words, and then
-- nothing or a comment
abbrev pub command_of : List ℕ → List ℕ → Option Command
command_of kind rest =
    with_load (number (word 0 rest)) (λ a.
    if no_more (word 1 rest) then command_of_one kind a
    else with_load (number (word 1 rest)) (λ b.
    if no_more (word 2 rest) then command_of_two kind a b else None))

abbrev pub required : Option Command → Result (Option Command) BadLine
required None = Err (record {})
required (Some c) = Ok (Some c)

-- what a line without its line feed means: a command, nothing, or it is bad
abbrev pub meaning : List ℕ → Result (Option Command) BadLine
meaning line =
    let text = line_without_return line in
    if no_more (word 0 text) then Ok None
    else required (command_of (word 0 text) (past blank (unspaced text)))

-- a line without a line feed that means this command
pub record Means (line : List ℕ) (c : Command) : Type 0 where
  pub one_line : front (λ b. b == 10) line ≡ line
  pub means : meaning line ≡ Ok (Some c)
