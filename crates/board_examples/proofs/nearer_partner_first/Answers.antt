use Rattle.std.proofs.Common.{List, Ok, Err, refl, ap, ◌∙◌, arith}
use Rattle.graph.specs.Graph.{no_links, added}
use Rattle.links.specs.Books.{lowered}
use Rattle.ranking.specs.Detour.{nearer}
use Rattle.ranking.specs.declared.detour.Place.{Place}
use Rattle.links.specs.Books.{fresh_ledger}
use Rattle.rules.specs.Boards.{listed}
use Rattle.rules.specs.Calls.{opened}
use Rattle.board_examples.proofs.Brought.{add_answers}
use Rattle.board_examples.proofs.Positions.{at_opening, read_at}
use Rattle.board_examples.proofs.Refusals.{not_refused}
use Rattle.board_examples.proofs.nearer_partner_first.Goals as goal

pub returns-in_err-add : goal.returns-in_err-add
returns-in_err-add c =
    let e = c.in_err-add.field-0.0 in
    absurd (not_refused e refl (add_answers c.new-book.result c.add.new.self (no_links 3) (fresh_ledger 3 2 3) 0 1 (Err e) c.new-book.ensures.making.0 c.in_err-add.ensures.book))

pub returns-in_err-add-2 : goal.returns-in_err-add-2
returns-in_err-add-2 c =
    let e = c.in_err-add-2.field-0.0 in
    let once = (add_answers c.new-book.result c.add.new.self (no_links 3) (fresh_ledger 3 2 3) 0 1 (Ok tt) c.new-book.ensures.making.0 c.in_ok-add.ensures.book).1 in
    absurd (not_refused e refl (add_answers c.add.new.self c.add-2.new.self (added (no_links 3) 0 1) (lowered (fresh_ledger 3 2 3) 0 1) 0 2 (Err e) once c.in_err-add-2.ensures.book))

pub returns : goal.returns
returns c =
    let g = added (added (no_links 3) 0 1) 0 2 in
    let l = lowered (lowered (fresh_ledger 3 2 3) 0 1) 0 2 in
    let ranking = c.new.result in
    let board = c.open-board.result in
    let once = (add_answers c.new-book.result c.add.new.self (no_links 3) (fresh_ledger 3 2 3) 0 1 (Ok tt) c.new-book.ensures.making.0 c.in_ok-add.ensures.book).1 in
    let twice = (add_answers c.add.new.self c.add-2.new.self (added (no_links 3) 0 1) (lowered (fresh_ledger 3 2 3) 0 1) 0 2 (Ok tt) once c.in_ok-add-2.ensures.book).1 in
    let at = at_opening c.add-2.new.self ranking board g l twice c.open-board.ensures.opens in
    read_at board (opened (nearer ranking.places.now) g l) at 3 c.partners.result (omega arith) c.partners.ensures
    ∙ ap (λ (places : List Place). Ok (listed (opened (nearer places) g l).partners 0 3)) c.new.ensures
