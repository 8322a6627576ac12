-- The lines of text that are answered, as bytes.
use Rattle.std.specs.Prelude.{ℕ, List, ◌++◌, codes, decimal}
use Rattle.links.specs.Words.{layer_name}
use Rattle.links.specs.Refusals.{Reason, told}
use Rattle.replies.specs.declared.Reply.{Reply}
use Rattle.replies.specs.declared.Reply.TheVariants.{Done, Alone, With, No}
use Rattle.replies.specs.Digits.{two_digits}

-- a reason to refuse, with the place of the command byte
abbrev pub refusal_line : Reason → ℕ → List ℕ
refusal_line reason place =
    codes "no " ++ two_digits reason.number ++ codes " " ++ layer_name reason.layer
    ++ codes " " ++ decimal place ++ codes "\n"

-- the line of a reply, with its line feed
abbrev pub line : Reply → List ℕ
line Done = codes "ok\n"
line Alone = codes "alone\n"
line (With partner) = codes "with " ++ decimal partner ++ codes "\n"
line (No refused place) = refusal_line (told refused) place

-- the line of two partners
abbrev pub pair_line : ℕ → ℕ → List ℕ
pair_line a b = decimal a ++ codes " " ++ decimal b ++ codes "\n"
