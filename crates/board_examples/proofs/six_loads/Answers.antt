use Rattle.std.proofs.Common.{ℕ, List, [], ◌∷◌, Ok, Err, refl, ap, ◌∙◌, arith}
use Rattle.graph.specs.Graph.{no_links}
use Rattle.links.specs.Books.{fresh_ledger}
use Rattle.rules.specs.Boards.{fresh, six, six_parted}
use Rattle.rules.specs.Calls.{unlink}
use Rattle.rules.proofs.Boards.{six_played}
use Rattle.board_examples.proofs.Positions.{at_opening, links_refused, at_links, call_answers, at_call, read_at}
use Rattle.board_examples.proofs.Refusals.{not_refused}
use Rattle.board_examples.proofs.six_loads.Goals as goal

abbrev pairs : List (ℕ × ℕ)
pairs = (0, 1) ∷ (2, 3) ∷ (0, 2) ∷ (1, 3) ∷ (1, 5) ∷ (3, 4) ∷ []

pub returns-in_err-link_all : goal.returns-in_err-link_all
returns-in_err-link_all g c = λ is-fresh.
    let e = c.in_err-link_all.field-0.0 in
    let first = c.open-board.result in
    let opened = at_opening c.args.book _ first (no_links 6) (fresh_ledger 6 5 8) is-fresh c.open-board.ensures.opens in
    absurd (not_refused e refl (links_refused first c.link_all.new.board (fresh 6 8) opened pairs e c.in_err-link_all.ensures))

pub returns-in_err-unlink : goal.returns-in_err-unlink
returns-in_err-unlink g c = λ is-fresh.
    let e = c.in_err-unlink.field-0.0 in
    let first = c.open-board.result in
    let opened = at_opening c.args.book _ first (no_links 6) (fresh_ledger 6 5 8) is-fresh c.open-board.ensures.opens in
    let linked = at_links first c.link_all.new.board (fresh 6 8) opened pairs c.in_ok-link_all.ensures in
    absurd (not_refused e six_played.parts (call_answers c.link_all.new.board c.unlink.new.self six linked (unlink 0 1) (Err e) c.in_err-unlink.ensures))

pub returns : goal.returns
returns g c = λ is-fresh.
    let first = c.open-board.result in
    let opened = at_opening c.args.book _ first (no_links 6) (fresh_ledger 6 5 8) is-fresh c.open-board.ensures.opens in
    let linked = at_links first c.link_all.new.board (fresh 6 8) opened pairs c.in_ok-link_all.ensures in
    let parted = at_call c.link_all.new.board c.unlink.new.self six linked (unlink 0 1) (Ok tt) c.in_ok-unlink.ensures in
    read_at c.unlink.new.self six_parted parted 6 c.partners.result (omega arith) c.partners.ensures ∙ ap Ok six_played.pairs_then
