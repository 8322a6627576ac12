use Rattle.std.proofs.Common.{false, ◌&&◌, ltb}
use Rattle.graph.specs.Graph.{Simple}
use Rattle.links.specs.InOrder.{Over}
use Rattle.tables.specs.Steps.{Stepped}
use Rattle.tables.proofs.Tables.tell_linked.Given as goal

abbrev pub invariant-loop-x : goal.invariant-loop-x
invariant-loop-x g l =
    (goal.iterator-loop-x g).can_next l.x-iterator ×
    (goal.iterator-loop-x g).is_finite l.x-iterator ×
    Over l.links l.a 256 l.x-iterator ×
    (g.L.Links.made l.links → Simple (g.L.Links.graph l.links) →
    Stepped l.on (λ _. false) (λ y. (g.L.Links.graph l.links).linked l.a y && ltb y l.x-iterator.from) l.a l.initial.self l.self)
