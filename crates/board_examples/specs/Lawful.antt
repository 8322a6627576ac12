-- What the law of runs says of partners that were read at three moments of a play.
use Rattle.std.specs.Prelude.{ℕ, ◌*◌, ◌≤◌, not, List, None, IsOkAnd, Option, Result, get_or}
use Rattle.graph.specs.Graph.{Graph, count, no_links, added, removed}
use Rattle.graph.specs.Isolated.{isolated}
use Rattle.graph.specs.Matching.{Partners, Matching}
use Rattle.graph.specs.Pairs.{pairs}
use Rattle.links.specs.declared.refusal.Refused.{Refused}
use Rattle.rules.specs.Health.{same_partner}
use Rattle.board_examples.specs.declared.law.Readings.{Readings}

abbrev pub links_made : Graph
links_made =
    added (added (added (added (added (added (no_links 24) 0 1) 2 3) 0 2) 1 3) 1 5) 3 4

abbrev pub links_left : Graph
links_left = removed links_made 0 1

-- the partners that an array tells
abbrev pub read_from : List (Option ℕ) → Partners
read_from array a = get_or array a None

-- at least two thirds of the pairs of every matching
abbrev pub TwoThirdsRead : Graph → List (Option ℕ) → Type 0
TwoThirdsRead g array =
    (q : Partners) → Matching g q → 2 * pairs g.size q ≤ 3 * pairs g.size (read_from array)

-- how many of the loads below n have another partner in the second array
abbrev pub differing : ℕ → List (Option ℕ) → List (Option ℕ) → ℕ
differing n xs ys = count n (λ a. not (same_partner (read_from xs a) (read_from ys a)))

-- all is granted. At each moment there are two thirds of the pairs of every matching, and at most
-- 12 and 7 loads have another partner than at the one before
pub record Lawful (p : Readings) : Type 0 where
  pub linked : TwoThirdsRead links_made p.linked
  pub unlinked : TwoThirdsRead links_left p.unlinked
  pub withdrawn : TwoThirdsRead (isolated links_left 3) p.withdrawn
  pub few_unlinked : differing 24 p.linked p.unlinked ≤ 12
  pub few_withdrawn : differing 24 p.unlinked p.withdrawn ≤ 7

abbrev pub LawSeen : Result Readings Refused → Type 0
LawSeen r = IsOkAnd r Lawful
