-- Matchings, and their augmenting paths of any number of links. What the shortest of these say
-- about the size of a matching: Hopcroft and Karp, "An n^{5/2} algorithm for maximum matchings in
-- bipartite graphs", SIAM J. Comput. 2, 1973.
use Rattle.std.specs.Prelude.{◌≡◌, ℕ, ◌+◌, ◌%◌, ◌<◌, ◌≤◌, true, List, length, Some, None, Option}
use Rattle.std.specs.Prelude.{◌≢◌, slice_index}
use Rattle.graph.specs.Graph.{Graph}

-- the partner of each load, if it has one
abbrev pub Partners : Type 0
Partners = ℕ → Option ℕ

-- a load without a partner
abbrev pub Free : Partners → ℕ → Type 0
Free p a = p a ≡ None

-- partners are each other's, and linked
pub record Matching (g : Graph) (p : Partners) : Type 0 where
  pub returned : (a b : ℕ) → p a ≡ Some b → p b ≡ Some a
  pub linked : (a b : ℕ) → p a ≡ Some b → g.linked a b ≡ true

abbrev pub at : List ℕ → ℕ → ℕ
at path i = slice_index path i

-- a path of m links over different loads, from a free load to a free load, whose steps go over
-- links outside and inside the matching in turn
pub record Augmenting (g : Graph) (p : Partners) (m : ℕ) (path : List ℕ) : Type 0 where
  pub positive : 0 < m
  pub loads : length path ≡ m + 1
  pub different : (i j : ℕ) → i < j → j ≤ m → at path i ≢ at path j
  pub begins : Free p (at path 0)
  pub ends : Free p (at path m)
  pub links : (i : ℕ) → i < m → g.linked (at path i) (at path (i + 1)) ≡ true
  pub outside : (i : ℕ) → i < m → i % 2 ≡ 0 → p (at path i) ≢ Some (at path (i + 1))
  pub inside : (i : ℕ) → i < m → i % 2 ≡ 1 → p (at path i) ≡ Some (at path (i + 1))

abbrev pub NoAugmenting : Graph → Partners → ℕ → Type 0
NoAugmenting g p m = (path : List ℕ) → Augmenting g p m path → ⊥

-- the small shape of one link: two free loads that are linked
pub record FreeLink (g : Graph) (p : Partners) (a b : ℕ) : Type 0 where
  pub begins : Free p a
  pub link : g.linked a b ≡ true
  pub ends : Free p b

-- the small shape of three links: from a free load over a pair to another free load
pub record FreeWalk (g : Graph) (p : Partners) (a x y z : ℕ) : Type 0 where
  pub begins : Free p a
  pub first : g.linked a x ≡ true
  pub pair : p x ≡ Some y
  pub last : g.linked y z ≡ true
  pub ends : Free p z
  pub apart : a ≡ z → ⊥
