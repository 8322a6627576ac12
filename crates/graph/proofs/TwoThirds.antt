-- Two thirds: the approximation ratio at k = 2, since no augmenting path has 0 or 2 links.
use Rattle.std.proofs.Common.{zero, suc, arith}
use Rattle.graph.specs.Graph.{Graph}
use Rattle.graph.specs.Matching.{Partners, Matching, NoAugmenting}
use Rattle.graph.specs.Approximation.{NoShortAugmenting, TwoThirds}
use Rattle.graph.proofs.Approximation.{approximation_ratio}
use Rattle.graph.proofs.Paths.{odd_links}

none_short : (g : Graph) (p : Partners) → Matching g p → NoAugmenting g p 1 → NoAugmenting g p 3 → NoShortAugmenting g p 2
none_short g p mp one three zero l = λ path h. absurd (omega (arith, h.positive))
none_short g p mp one three (suc zero) l = one
none_short g p mp one three (suc (suc zero)) l = λ path h. let odd = odd_links g p mp 2 path h in absurd (omega arith)
none_short g p mp one three (suc (suc (suc zero))) l = three
none_short g p mp one three (suc (suc (suc (suc m)))) l = absurd (omega arith)

pub two_thirds : TwoThirds
two_thirds g s p q mp one three mq = approximation_ratio 2 (omega arith) g s p q mp (none_short g p mp one three) mq
