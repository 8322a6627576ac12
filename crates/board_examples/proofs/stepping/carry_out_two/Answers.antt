use Rattle.std.proofs.Common.{rules}
use Rattle.board_examples.proofs.StreamSteps.{two_of_two}
use Rattle.board_examples.proofs.stepping.carry_out_two.Goals as goal

pub returns : goal.returns
returns g c =
    two_of_two g.B.Links.graph g.B.Links.made g.B.Book.ledger g.B.Book.fixed g.R.Ranking.before c.args.board.now c.args.stream.now c.args.place c.in_ok-next.next c.in_ok-next.first c.carry_out.new.board c.carry_out-2.new.board c.in_ok-next.ensures
    _ _ _ c.in_ok-second.ensures (search rules)
