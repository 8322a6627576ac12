-- The list of the pairs of a board.
use Rattle.std.specs.Prelude.{◌≡◌, ℕ, zero, suc, ◌*◌, ◌≤◌, List, [], ◌++◌, length, drop, Some}
use Rattle.std.specs.Prelude.{None, IfOk, IfErr, Option, Result, nat_lt, if◌then◌else◌}
use Rattle.graph.specs.Matching.{Partners}
use Rattle.links.specs.Books.{by}
use Rattle.links.specs.Refusals.{Reason, Answers, Kept, told}
use Rattle.links.specs.declared.refusal.Layer.TheVariants.{Stream}
use Rattle.links.specs.declared.refusal.Refused.{Refused}
use Rattle.rules.specs.Calls.{Position, pairs_of}
use Rattle.replies.specs.Lines.{pair_line}
use Rattle.replies.specs.declared.TheConstants.{LONGEST_PAIR}

-- the line of a load and the partner that it has, at the lower of the two
abbrev pub lower_line : ℕ → Option ℕ → List ℕ
lower_line a None = []
lower_line a (Some b) = if nat_lt a b then pair_line a b else []

-- the lines of the pairs whose lower load is below n, in the order of the lower loads
abbrev pub pair_lines : ℕ → Partners → List ℕ
pair_lines zero p = []
pair_lines (suc n) p = pair_lines n p ++ lower_line n (p n)

abbrev pub lines_of : Position → List ℕ
lines_of x = pair_lines x.graph.size x.partners

-- 14: the output is too short
abbrev pub too_short : Option Reason
too_short = by Stream 14

-- there is no room for the longest line of each pair
abbrev pub listing : Position → List ℕ → Option Reason
listing x out =
    if nat_lt (length out) (LONGEST_PAIR * pairs_of x) then too_short else None

-- how the pairs of a board are listed at the start of the output `from`. On every board: refused,
-- which it is with 14 alone, the output stays as it was, and granted, all that lies past the length
-- that is answered. Where the board stands, at the position x, the lines are those of its pairs
pub record Lists (Standing : Type 0) (x : Position) (from : List ℕ) (r : Result ℕ Refused)
    (out : List ℕ) : Type 0 where
  pub kept : Kept r from out
  pub refused : IfErr r (λ e. too_short ≡ Some (told e))
  pub granted : IfOk r (λ n. (n ≤ length from) × (drop n out ≡ drop n from))
  pub answers : Standing → Answers (listing x from) r
      (λ n. (n ≡ length (lines_of x)) × (out ≡ lines_of x ++ drop n from))
