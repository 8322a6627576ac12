-- What holds of degrees, of pairs, and of matchings without short augmenting paths.
use Rattle.std.specs.Prelude.{◌≡◌, ℕ, ◌+◌, ◌-◌, ◌*◌, ◌≤◌}
use Rattle.graph.specs.Graph.{Graph, Simple, count, total, degree, link_count}
use Rattle.graph.specs.Matching.{Partners, Matching, NoAugmenting}
use Rattle.graph.specs.Pairs.{has_partner, pairs, is_lower}
use Rattle.graph.specs.Short.{Maximal, NoWalk}

-- the degrees add up to twice the links
abbrev pub Handshake : Type 0
Handshake = (g : Graph) → Simple g → total g.size (degree g) ≡ 2 * link_count g

-- the pairs counted at their lower loads
pub record AtLower (n : ℕ) (p : Partners) : Type 0 where
  pub twice : 2 * count n (is_lower p) ≡ count n (has_partner p)
  pub once : count n (is_lower p) ≡ pairs n p

abbrev pub PairsAtLower : Type 0
PairsAtLower = (g : Graph) → Simple g → (p : Partners) → Matching g p → AtLower g.size p

-- no augmenting path of one link: no two free loads are linked; none of three: every walk over a
-- pair comes back
pub record ShortPaths (g : Graph) (p : Partners) : Type 0 where
  pub maximal : NoAugmenting g p 1 → Maximal g p
  pub no_one : Maximal g p → NoAugmenting g p 1
  pub no_walk : NoAugmenting g p 3 → NoWalk g p
  pub no_three : NoWalk g p → NoAugmenting g p 3

abbrev pub ShortPathsOfMatchings : Type 0
ShortPathsOfMatchings = (g : Graph) → Simple g → (p : Partners) → Matching g p → ShortPaths g p

-- no augmenting path has up to 2k − 1 links
abbrev pub NoShortAugmenting : Graph → Partners → ℕ → Type 0
NoShortAugmenting g p k = (m : ℕ) → m ≤ 2 * k - 1 → NoAugmenting g p m

-- for every k from 1 on, a matching p without augmenting paths of up to 2k − 1 links has at least
-- k / (k + 1) of the pairs of every matching q; counted are the pairs, not the loads of them
abbrev pub ApproximationRatio : Type 0
ApproximationRatio =
    (k : ℕ) → 1 ≤ k → (g : Graph) → Simple g → (p q : Partners) →
    Matching g p → NoShortAugmenting g p k → Matching g q →
    k * pairs g.size q ≤ (k + 1) * pairs g.size p

-- a matching without augmenting paths of one or three links has at least two thirds of the pairs of
-- every matching
abbrev pub TwoThirds : Type 0
TwoThirds =
    (g : Graph) → Simple g → (p q : Partners) →
    Matching g p → NoAugmenting g p 1 → NoAugmenting g p 3 → Matching g q →
    2 * pairs g.size q ≤ 3 * pairs g.size p
