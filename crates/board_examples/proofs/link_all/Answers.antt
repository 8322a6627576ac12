use Rattle.std.proofs.Common.{ℕ, ◌+◌, List, get_or, drop, Ok, sym, subst}
use Rattle.std.proofs.lemmas.List.{drop_more, drop_all}
use Rattle.board_examples.specs.Played.{Plays}
use Rattle.board_examples.proofs.Played.{plays_none, plays_stopped, plays_more}
use Rattle.board_examples.proofs.link_all.Goals as goal

pub returns-in_err-link : goal.returns-in_err-link
returns-in_err-link g c =
    let pairs = c.args.pairs.now in
    let i = c.loop-a.a-index in
    let pair = get_or pairs i (0, 0) in
    c.loop-a.invariant _ _
    (subst (λ (l : List (ℕ × ℕ)). Plays g.B.Links.graph g.B.Links.made g.B.Book.ledger g.B.Book.fixed g.R.Ranking.before c.loop-a.board l c.from_residual.result c.link.new.self) (sym (drop_more pairs i (0, 0) c.loop-a-test.true))
    (plays_stopped g.B.Links.graph g.B.Links.made g.B.Book.ledger g.B.Book.fixed g.R.Ranking.before c.loop-a.board c.link.new.self pair.0 pair.1 (drop (i + 1) pairs)
    c.in_err-link.field-0.0 c.from_residual.result c.from_residual.ensures.1 c.in_err-link.ensures))

pub loop-a-preserved : goal.loop-a-preserved
loop-a-preserved g c = λ r t more.
    let pairs = c.args.pairs.now in
    let i = c.loop-a.a-index in
    let pair = get_or pairs i (0, 0) in
    c.loop-a.invariant _ _
    (subst (λ (l : List (ℕ × ℕ)). Plays g.B.Links.graph g.B.Links.made g.B.Book.ledger g.B.Book.fixed g.R.Ranking.before c.loop-a.board l r t) (sym (drop_more pairs i (0, 0) c.loop-a-test.true))
    (plays_more g.B.Links.graph g.B.Links.made g.B.Book.ledger g.B.Book.fixed g.R.Ranking.before c.loop-a.board c.link.new.self pair.0 pair.1 (drop (i + 1) pairs)
    t r c.in_ok-link.ensures more))

pub returns : goal.returns
returns g c =
    c.loop-a.invariant _ _
    (subst (λ (l : List (ℕ × ℕ)). Plays g.B.Links.graph g.B.Links.made g.B.Book.ledger g.B.Book.fixed g.R.Ranking.before c.loop-a.board l (Ok tt) c.loop-a.board)
    (sym (drop_all c.loop-a.a-index c.args.pairs.now c.loop-a-test.false))
    (plays_none g.B.Links.graph g.B.Links.made g.B.Book.ledger g.B.Book.fixed g.R.Ranking.before c.loop-a.board))
