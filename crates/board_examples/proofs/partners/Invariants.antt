use Rattle.std.proofs.Common.{◌≡◌, length, take}
use Rattle.rules.specs.Boards.{listed}
use Rattle.tables.specs.Views.{partners_of}
use Rattle.board.specs.Boards.{Stands}
use Rattle.board_examples.proofs.partners.Given as goal

abbrev pub invariant-loop-a : goal.invariant-loop-a
invariant-loop-a g l = (length l.partner-items ≡ g.row.N) × (Stands g.B.Links.graph g.B.Links.made g.B.Book.ledger l.board → take l.a l.partner-items ≡ listed (partners_of l.board.tables) 0 l.a)
