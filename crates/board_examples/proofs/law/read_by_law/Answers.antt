use Rattle.board_examples.proofs.ReadByLaw.{never_linked, reads_linked, never_unlinked, reads_unlinked, never_withdrawn, reads_withdrawn, lawful}
use Rattle.board_examples.proofs.law.read_by_law.Goals as goal

pub returns-in_err-link_all : goal.returns-in_err-link_all
returns-in_err-link_all g c = λ is_fresh.
    absurd (never_linked c.args.book c.args.ranking is_fresh c.open-board.result c.open-board.ensures.opens c.link_all.new.board c.in_err-link_all.field-0.0 c.in_err-link_all.ensures)

pub returns-in_err-linked : goal.returns-in_err-linked
returns-in_err-linked g c = λ is_fresh.
    absurd (reads_linked c.args.book c.args.ranking is_fresh c.open-board.result c.open-board.ensures.opens c.link_all.new.board c.in_ok-link_all.ensures c.in_err-linked.field-0.0 c.in_err-linked.ensures)

pub returns-in_err-unlink : goal.returns-in_err-unlink
returns-in_err-unlink g c = λ is_fresh.
    absurd (never_unlinked c.args.book c.args.ranking is_fresh c.open-board.result c.open-board.ensures.opens c.link_all.new.board c.in_ok-link_all.ensures c.unlink.new.self c.in_err-unlink.field-0.0 c.in_err-unlink.ensures)

pub returns-in_err-unlinked : goal.returns-in_err-unlinked
returns-in_err-unlinked g c = λ is_fresh.
    absurd (reads_unlinked c.args.book c.args.ranking is_fresh c.open-board.result c.open-board.ensures.opens c.link_all.new.board c.in_ok-link_all.ensures c.unlink.new.self c.in_ok-unlink.ensures
    c.in_err-unlinked.field-0.0 c.in_err-unlinked.ensures)

pub returns-in_err-withdraw : goal.returns-in_err-withdraw
returns-in_err-withdraw g c = λ is_fresh.
    absurd (never_withdrawn c.args.book c.args.ranking is_fresh c.open-board.result c.open-board.ensures.opens c.link_all.new.board c.in_ok-link_all.ensures c.unlink.new.self c.in_ok-unlink.ensures
    c.withdraw.new.self c.in_err-withdraw.field-0.0 c.in_err-withdraw.ensures)

pub returns-in_err-withdrawn : goal.returns-in_err-withdrawn
returns-in_err-withdrawn g c = λ is_fresh.
    absurd (reads_withdrawn c.args.book c.args.ranking is_fresh c.open-board.result c.open-board.ensures.opens c.link_all.new.board c.in_ok-link_all.ensures c.unlink.new.self c.in_ok-unlink.ensures
    c.withdraw.new.self c.in_ok-withdraw.ensures c.in_err-withdrawn.field-0.0 c.in_err-withdrawn.ensures)

pub returns : goal.returns
returns g c = λ is_fresh.
    lawful c.args.book c.args.ranking is_fresh c.open-board.result c.open-board.ensures.opens c.link_all.new.board c.in_ok-link_all.ensures c.unlink.new.self c.in_ok-unlink.ensures
    c.withdraw.new.self c.in_ok-withdraw.ensures (c.open-board.ensures.law is_fresh.still_made)
    c.in_ok-linked.linked c.in_ok-unlinked.unlinked c.in_ok-withdrawn.withdrawn c.in_ok-linked.ensures c.in_ok-unlinked.ensures c.in_ok-withdrawn.ensures
