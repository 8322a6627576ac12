-- What holds of augmenting paths, for every graph and every matching of it.
use Rattle.std.specs.Prelude.{◌≡◌, ℕ, ◌%◌, List, [], ◌∷◌}
use Rattle.graph.specs.Graph.{Graph, Simple}
use Rattle.graph.specs.Matching.{Partners, Matching, Augmenting, FreeLink, FreeWalk}

-- the augmenting paths of one link are the links between two free loads
pub record OfOne (g : Graph) (p : Partners) : Type 0 where
  pub shape : (path : List ℕ) → Augmenting g p 1 path →
      (a : ℕ) × (b : ℕ) × (path ≡ a ∷ b ∷ []) × FreeLink g p a b
  pub path : (a b : ℕ) → FreeLink g p a b → Augmenting g p 1 (a ∷ b ∷ [])

-- the augmenting paths of three links are the walks from a free load over a pair to another free
-- load
pub record OfThree (g : Graph) (p : Partners) : Type 0 where
  pub shape : (path : List ℕ) → Augmenting g p 3 path →
      (a : ℕ) × (x : ℕ) × (y : ℕ) × (z : ℕ) × (path ≡ a ∷ x ∷ y ∷ z ∷ []) × FreeWalk g p a x y z
  pub path : (a x y z : ℕ) → FreeWalk g p a x y z → Augmenting g p 3 (a ∷ x ∷ y ∷ z ∷ [])

abbrev pub PathsOfOne : Type 0
PathsOfOne = (g : Graph) → Simple g → (p : Partners) → Matching g p → OfOne g p

abbrev pub PathsOfThree : Type 0
PathsOfThree = (g : Graph) → Simple g → (p : Partners) → Matching g p → OfThree g p

-- an augmenting path has an odd number of links
abbrev pub PathsAreOdd : Type 0
PathsAreOdd =
    (g : Graph) (p : Partners) → Matching g p
    → (m : ℕ) (path : List ℕ) → Augmenting g p m path → m % 2 ≡ 1
