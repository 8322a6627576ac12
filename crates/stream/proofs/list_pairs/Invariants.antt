use Rattle.std.proofs.Common.{◌≤◌, ◌*◌}
use Rattle.tables.specs.Views.{partners_of}
use Rattle.board.specs.Boards.{Stands}
use Rattle.stream.proofs.Listing.{Listed}
use Rattle.stream.proofs.list_pairs.Given as goal

abbrev pub invariant-loop-a : goal.invariant-loop-a
invariant-loop-a g l = record {
  within : l.written ≤ 8 * l.a;
  listed : Stands g.B.Links.graph g.B.Links.made g.B.Book.ledger l.board → Listed l.a (partners_of l.board.tables) l.lines l.written;
}
