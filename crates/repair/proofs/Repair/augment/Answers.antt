use Rattle.repair.proofs.Taking.{augmented_some}
use Rattle.repair.proofs.Repair.augment.Goals as goal

pub returns : goal.returns
returns g c = λ made simple free agrees matching.
    augmented_some (g.R.Ranking.before c.args.self.now.ranking.now) (g.L.Links.graph c.args.self.now.links.now) simple c.args.a c.args.tables.now free agrees matching
    c.in-Some.x c.in-Some.y c.in-Some.z (c.in-Some.ensures made simple agrees).1 (c.exchange.ensures.changed made simple)
