use Rattle.std.proofs.Common.{◌≤◌}
use Rattle.graph.specs.Graph.{Simple}
use Rattle.board.specs.Recording.{AllFree, links_before}
use Rattle.board.proofs.opening.recorded.Given as goal

abbrev pub invariant-loop-a : goal.invariant-loop-a
invariant-loop-a g l = g.L.Links.made l.links → Simple (g.L.Links.graph l.links) → l.size ≤ (g.L.Links.graph l.links).size →
    AllFree (links_before (g.L.Links.graph l.links) l.a 0) l.tables
