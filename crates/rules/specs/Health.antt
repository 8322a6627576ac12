-- What holds of a position at each moment, and between two.
use Rattle.std.specs.Prelude.{◌≡◌, ℕ, ◌+◌, ◌*◌, ◌<◌, ◌≤◌, Bool, not, Option, ◌==◌}
use Rattle.std.specs.Option.{option_eq}
use Rattle.graph.specs.Graph.{Graph, Simple, count, degree, link_count}
use Rattle.graph.specs.Matching.{Partners, Free, Matching, NoAugmenting}
use Rattle.graph.specs.Pairs.{pairs}
use Rattle.links.specs.Books.{Bounded}
use Rattle.rules.specs.Calls.{Position}
use Rattle.rules.specs.Threshold.{threshold}

-- a matching without augmenting paths of one or three links, in which every free load has at most t
-- links
pub record Healthy (g : Graph) (t : ℕ) (p : Partners) : Type 0 where
  pub matching : Matching g p
  pub no_path_of_one : NoAugmenting g p 1
  pub no_path_of_three : NoAugmenting g p 3
  pub light : (a : ℕ) → a < g.size → Free p a → degree g a ≤ t

-- a position with a proper graph and ledger and a healthy matching
pub record Sound (x : Position) : Type 0 where
  pub simple : Simple x.graph
  pub bounded : Bounded x.graph x.ledger
  pub healthy : Healthy x.graph (threshold x.ledger.limit) x.partners

-- at least two thirds of the pairs of every matching
abbrev pub TwoThirds : Position → Type 0
TwoThirds x =
    (q : Partners) → Matching x.graph q →
    2 * pairs x.graph.size q ≤ 3 * pairs x.graph.size x.partners

-- from x to y: size, limit and barred pairs are the same, and spares and room follow each link
pub record Follows (x y : Position) : Type 0 where
  pub size : y.graph.size ≡ x.graph.size
  pub limit : y.ledger.limit ≡ x.ledger.limit
  pub barred : y.ledger.barred ≡ x.ledger.barred
  pub spares : (a : ℕ) → y.ledger.spare a + degree y.graph a ≡ x.ledger.spare a + degree x.graph a
  pub room : y.ledger.room + link_count y.graph ≡ x.ledger.room + link_count x.graph

abbrev pub same_partner : Option ℕ → Option ℕ → Bool
same_partner = option_eq (λ x y. x == y)

-- how many loads have another partner in y than in x, or one only in x or only in y
abbrev pub changes : Position → Position → ℕ
changes x y = count x.graph.size (λ a. not (same_partner (x.partners a) (y.partners a)))
