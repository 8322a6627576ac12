-- That a matching has no augmenting path of one or of three links, in terms of the loads on it.
use Rattle.std.specs.Prelude.{◌≡◌, ℕ, true, Some, ◌≢◌}
use Rattle.graph.specs.Graph.{Graph}
use Rattle.graph.specs.Matching.{Partners, Free}

-- no two free loads are linked
abbrev pub Maximal : Graph → Partners → Type 0
Maximal g p = (a b : ℕ) → Free p a → Free p b → g.linked a b ≢ true

-- every walk from a over a pair to a free load comes back to a
abbrev pub NoWalkFrom : Graph → Partners → ℕ → Type 0
NoWalkFrom g p a =
    (x y z : ℕ) → g.linked a x ≡ true → p x ≡ Some y → g.linked y z ≡ true → Free p z → z ≡ a

abbrev pub NoWalk : Graph → Partners → Type 0
NoWalk g p = (a : ℕ) → Free p a → NoWalkFrom g p a
