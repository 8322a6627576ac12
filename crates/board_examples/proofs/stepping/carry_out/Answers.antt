use Rattle.std.proofs.Common.{refl}
use Rattle.board_examples.proofs.StreamSteps.{first_byte, no_byte, carried}
use Rattle.board_examples.proofs.stepping.carry_out.Goals as goal

pub returns-then-stepped-gt0 : goal.returns-then-stepped-gt0
returns-then-stepped-gt0 g c =
    carried g.B.Links.graph g.B.Links.made g.B.Book.ledger g.B.Book.fixed g.R.Ranking.before c.args.board.now c.args.stream.now c.args.place c.step.new.board
    _ c.step.new.out c.in_ok-stepped.stepped _ refl c.in_ok-stepped.ensures (λ text n writes. first_byte text _ c.step.new.out n c.in_ok-stepped.stepped writes c.if-stepped-gt0.true)

pub returns-else-stepped-gt0 : goal.returns-else-stepped-gt0
returns-else-stepped-gt0 g c =
    carried g.B.Links.graph g.B.Links.made g.B.Book.ledger g.B.Book.fixed g.R.Ranking.before c.args.board.now c.args.stream.now c.args.place c.step.new.board
    _ c.step.new.out c.in_ok-stepped.stepped _ refl c.in_ok-stepped.ensures (λ text n writes. no_byte text _ c.step.new.out n c.in_ok-stepped.stepped writes c.if-stepped-gt0.false)
