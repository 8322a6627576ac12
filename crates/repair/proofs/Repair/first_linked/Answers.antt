use Rattle.repair.proofs.Bests.{linked_best}
use Rattle.repair.proofs.Repair.first_linked.Goals as goal

pub returns : goal.returns
returns g c = λ made simple test tells.
    linked_best g.L.Links.made g.L.Links.graph _ (g.R.Ranking.before c.args.self.now.ranking.now c.args.a) c.args.self.now.links.now c.args.a c.linked_loads.result
    c.linked_loads.ensures.over c.linked_loads.ensures.begins c.best_of.ensures made simple test tells
