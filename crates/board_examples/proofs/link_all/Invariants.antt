use Rattle.std.proofs.Common.{drop, Result}
use Rattle.links.specs.declared.refusal.Refused.{Refused}
use Rattle.board.specs.declared.Board.{Board}
use Rattle.board_examples.specs.Played.{Plays}
use Rattle.board_examples.proofs.link_all.Given as goal

abbrev pub invariant-loop-a : goal.invariant-loop-a
invariant-loop-a g l = (r : Result Unit Refused) (t : Board _ _) →
    Plays g.B.Links.graph g.B.Links.made g.B.Book.ledger g.B.Book.fixed g.R.Ranking.before l.board (drop l.a-index l.pairs) r t →
    Plays g.B.Links.graph g.B.Links.made g.B.Book.ledger g.B.Book.fixed g.R.Ranking.before l.initial.board l.pairs r t
