use Rattle.std.proofs.Common.{rules}
use Rattle.rules.specs.Repair.{any_below, ends_path}
use Rattle.tables.specs.Views.{partners_of}
use Rattle.repair.proofs.Repair.path_start.Goals as goal

pub returns : goal.returns
returns g c = λ made simple agrees.
    let graph = g.L.Links.graph c.args.self.now.links.now in
    let p = partners_of c.args.tables.now in
    c.first_linked.ensures made simple (λ x. any_below graph.size (ends_path graph p c.args.a (p x))) (λ x b answers. search (rules, simple, agrees))
