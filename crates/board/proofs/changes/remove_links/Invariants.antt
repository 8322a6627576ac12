use Rattle.std.proofs.Common.{◌≡◌, ◌-◌}
use Rattle.graph.specs.Graph.{Simple}
use Rattle.board.proofs.Leaving.{RemovedBelow}
use Rattle.board.proofs.changes.remove_links.Given as goal

abbrev pub invariant-loop-b : goal.invariant-loop-b
invariant-loop-b g l =
    let graph = g.B.Links.graph in
    let start = l.initial.book in
    record {
      removed : g.B.Links.made start → (simple : Simple (graph start)) →
          RemovedBelow graph g.B.Links.made g.B.Book.ledger l.a start l.initial.tables simple l.from l.book l.tables;
      stays : g.B.Book.fixed l.book ≡ g.B.Book.fixed start;
    }

abbrev pub decreases-loop-b : goal.decreases-loop-b
decreases-loop-b g l = 256 - l.from
