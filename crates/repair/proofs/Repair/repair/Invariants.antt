use Rattle.std.proofs.Common.{take}
use Rattle.rules.specs.Repair.{each, match_free, improve}
use Rattle.repair.specs.OnLinks.{OnLinks}
use Rattle.repair.specs.Holds.{Changes}
use Rattle.repair.proofs.Repair.repair.Given as goal

abbrev pub invariant-loop-load : goal.invariant-loop-load
invariant-loop-load g l = OnLinks g.L.Links.made g.L.Links.graph g.R.Ranking.before l.self
    (λ before t graph. Changes graph (each (match_free before graph) (take l.load-index l.loads)) l.initial.tables l.tables)

abbrev pub invariant-loop-load-2 : goal.invariant-loop-load-2
invariant-loop-load-2 g l = OnLinks g.L.Links.made g.L.Links.graph g.R.Ranking.before l.self
    (λ before t graph. Changes graph (each (improve before t graph) (take l.load-index l.loads)) l.initial.tables l.tables)
