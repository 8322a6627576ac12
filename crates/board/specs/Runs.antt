-- The law of runs: what holds of a board at each moment, after any calls in any order and number,
-- granted or refused.
use Rattle.std.specs.Prelude.{◌≡◌, ◌≤◌, Result}
use Rattle.graph.specs.Graph.{Graph}
use Rattle.links.specs.Books.{Ledger}
use Rattle.links.specs.Refusals.{Answers}
use Rattle.links.specs.declared.refusal.Refused.{Refused}
use Rattle.rules.specs.Calls.{Call, Answer, reason, answer, after}
use Rattle.rules.specs.Health.{TwoThirds, Follows, changes}
use Rattle.rules.specs.Laws.{allowed}
use Rattle.rules.specs.Repair.{Ranking}
use Rattle.rules.specs.Theorems.{Least}
use Rattle.rules.specs.Threshold.{threshold}
use Rattle.board.specs.declared.Board.{Board}
use Rattle.board.specs.Boards.{position, Stands, Steps}

module _ {B R F : Type 0} (graph : B → Graph) (made : B → Type 0) (ledger : B → Ledger)
    (fixed : B → F) (before : R → Ranking) where
  -- the boards that calls lead to from a first one, changes and questions alike; of each call only
  -- what its contract ensures is known
  pub data Run (first : Board B R) : Board B R → Type 0 where
    none : Run first first
    more : (s : Board B R) → Run first s →
        (c : Call) (r : Result (Answer c) Refused) (t : Board B R) →
        Steps graph made ledger fixed before s c r t → Run first t

  -- calls alone lead from the board s to t: each run that came to s has come to t
  abbrev pub CarriesRuns : Board B R → Board B R → Type 0
  CarriesRuns s t = (first : Board B R) → Run first s → Run first t

  -- a call c on s is answered r and leads to t by the rules: refusal or answer, links, spares and
  -- partners are theirs; size, limit and barred pairs stay, and spares and room follow each link;
  -- and at most 6 loads have another partner after a linking, 12 after an unlinking, 7 after a
  -- withdrawal, 2 after a departure, none after a refusal or a question
  pub record ByRules (order : Ranking) (s : Board B R) (c : Call) (r : Result (Answer c) Refused)
      (t : Board B R) : Type 0 where
    pub answers : let x = position graph ledger s in Answers (reason x c) r (λ v. v ≡ answer x c)
    pub position_is : position graph ledger t ≡ after order (position graph ledger s) c
    pub follows : Follows (position graph ledger s) (position graph ledger t)
    pub few : let x = position graph ledger s in
        changes x (position graph ledger t) ≤ allowed (reason x c) c

  -- a moment s of a run from the board `first`. The board stands: partners are mutual and linked,
  -- no augmenting path has one or three links, and no free load has more links than the threshold,
  -- the least whole number whose square is at least twice the limit. Three times the pairs is at
  -- least twice those of every matching. The ranking is that of the first board, and so is what no
  -- call of a book changes. Each call, whether it is a change or a question, goes by the rules
  pub record Moment (first s : Board B R) : Type 0 where
    pub stands : Stands graph made ledger s
    pub threshold_is : let limit = (ledger s.book).limit in Least limit (threshold limit)
    pub two_thirds : TwoThirds (position graph ledger s)
    pub ranking_is : s.ranking ≡ first.ranking
    pub fixed_is : fixed s.book ≡ fixed first.book
    pub next : (c : Call) (r : Result (Answer c) Refused) (t : Board B R) →
        Steps graph made ledger fixed before s c r t → ByRules (before first.ranking) s c r t

  -- every moment of every run from the board `first`
  abbrev pub Law : Board B R → Type 0
  Law first = (s : Board B R) → Run first s → Moment first s
