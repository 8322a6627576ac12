-- Links made on a board one after another, and its partners read.
use Rattle.std.specs.Prelude.{◌≡◌, ℕ, ◌≤◌, List, [], ◌∷◌, Some, None, Ok, Option, Result}
use Rattle.graph.specs.Graph.{Graph}
use Rattle.links.specs.Books.{Ledger}
use Rattle.links.specs.Refusals.{Reason, Answers}
use Rattle.links.specs.declared.refusal.Refused.{Refused}
use Rattle.rules.specs.Boards.{played_by, listed}
use Rattle.rules.specs.Calls.{Position, Call, link, reason, after}
use Rattle.rules.specs.Repair.{Ranking}
use Rattle.tables.specs.Views.{partners_of}
use Rattle.board.specs.declared.Board.{Board}
use Rattle.board.specs.Boards.{position, Stands}
use Rattle.board.specs.Runs.{CarriesRuns}

-- each pair of loads linked
abbrev pub linkings : List (ℕ × ℕ) → List Call
linkings [] = []
linkings ((a, b) ∷ rest) = link a b ∷ linkings rest

abbrev pub or_else : Option Reason → Option Reason → Option Reason
or_else None later = later
or_else (Some r) later = Some r

-- why the first of the calls that is refused is refused, if any is
abbrev pub first_refusal : Ranking → List Call → Position → Option Reason
first_refusal before [] x = None
first_refusal before (c ∷ rest) x =
    or_else (reason x c) (first_refusal before rest (after before x c))

-- links made on a board s up to the first refusal, answered r, lead by calls to the board t. Where
-- s stood and all are granted, t is at the position that the rules lead to
pub record Plays {B R F : Type 0} (graph : B → Graph) (made : B → Type 0) (ledger : B → Ledger)
    (fixed : B → F)
    (before : R → Ranking) (s : Board B R) (pairs : List (ℕ × ℕ)) (r : Result Unit Refused)
    (t : Board B R) : Type 0 where
  pub run : CarriesRuns graph made ledger fixed before s t
  pub answers : Stands graph made ledger s →
      let x = position graph ledger s in
      let order = before s.ranking in
      Answers (first_refusal order (linkings pairs) x) r
      (λ _. position graph ledger t ≡ played_by order (linkings pairs) x)

-- of a board that stands and has that many loads, the partners of the first n
abbrev pub Reads : {B R : Type 0} → (B → Graph) → (B → Type 0) → (B → Ledger) → Board B R → ℕ →
    Result (List (Option ℕ)) Refused → Type 0
Reads graph made ledger s n r =
    Stands graph made ledger s → n ≤ (graph s.book).size →
    r ≡ Ok (listed (partners_of s.tables) 0 n)
