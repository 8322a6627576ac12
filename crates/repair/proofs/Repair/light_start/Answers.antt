use Rattle.std.proofs.Common.{rules}
use Rattle.rules.specs.Repair.{light_partner}
use Rattle.rules.specs.Threshold.{threshold}
use Rattle.tables.specs.Views.{partners_of}
use Rattle.repair.proofs.Repair.light_start.Goals as goal

pub returns : goal.returns
returns g c = λ made simple agrees.
    let graph = g.L.Links.graph c.args.self.now.links.now in
    c.first_linked.ensures made simple (λ x. light_partner graph (threshold c.args.self.now.limit) (partners_of c.args.tables.now x)) (λ x b answers. search (rules, agrees))
