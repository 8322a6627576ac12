use Rattle.ranking.proofs.Orders.{nearer_order}
use Rattle.ranking.proofs.detour.ByDetourRanking.comes_first.Goals as goal

pub returns-clause-ordered : goal.returns-clause-ordered
returns-clause-ordered c = nearer_order c.args.self.now.places.now
