use Rattle.std.proofs.Common.{◌<◌}
use Rattle.graph.specs.Graph.{Simple}
use Rattle.links.specs.InOrder.{Over}
use Rattle.board.specs.Recording.{AllFree, links_before}
use Rattle.board.proofs.opening.record_below.Given as goal

abbrev pub invariant-loop-b : goal.invariant-loop-b
invariant-loop-b g l =
    (goal.iterator-loop-b g).can_next l.b-iterator ×
    (goal.iterator-loop-b g).is_finite l.b-iterator ×
    Over l.links l.a l.a l.b-iterator ×
    (g.L.Links.made l.links → Simple (g.L.Links.graph l.links) → l.a < (g.L.Links.graph l.links).size →
    AllFree (links_before (g.L.Links.graph l.links) l.a 0) l.initial.tables → AllFree (links_before (g.L.Links.graph l.links) l.a l.b-iterator.from) l.tables)
