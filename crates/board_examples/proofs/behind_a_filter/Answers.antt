use Rattle.std.proofs.Common.{◌≡◌, Ok, Err, refl, ap, ◌∙◌}
use Rattle.graph.specs.Graph.{no_links, added}
use Rattle.links.specs.Books.{lowered}
use Rattle.links.specs.declared.refusal.Layer.TheVariants.{Book}
use Rattle.links.specs.declared.refusal.Refusal.TheVariants.{Barred, NotLinked}
use Rattle.class_filter.specs.Classes.{filtered, filtered_ledger}
use Rattle.links.specs.Books.{fresh_ledger}
use Rattle.rules.specs.Calls.{link, unlink, ask_free_links, reason}
use Rattle.board_examples.proofs.Brought.{add_answers, behind}
use Rattle.board_examples.proofs.HiddenLinks.{hides, brought, allowed, start, after_linking, after_unlinking, played}
use Rattle.board_examples.proofs.Positions.{at_opening, call_answers, at_call, told_at, read_at}
use Rattle.board_examples.proofs.Refusals.{not_refused, refused_with}
use Rattle.board_examples.proofs.behind_a_filter.Goals as goal

pub returns-in_err-add : goal.returns-in_err-add
returns-in_err-add c =
    let e = c.in_err-add.field-0.0 in
    absurd (not_refused e refl (add_answers c.new-below.result c.add.new.self (no_links 3) (fresh_ledger 3 2 3) 0 1 (Err e) c.new-below.ensures.making.0 c.in_err-add.ensures.book))

pub returns-in_err-add-2 : goal.returns-in_err-add-2
returns-in_err-add-2 c =
    let e = c.in_err-add-2.field-0.0 in
    let once = (add_answers c.new-below.result c.add.new.self (no_links 3) (fresh_ledger 3 2 3) 0 1 (Ok tt) c.new-below.ensures.making.0 c.in_ok-add.ensures.book).1 in
    absurd (not_refused e refl (add_answers c.add.new.self c.add-2.new.self (added (no_links 3) 0 1) (lowered (fresh_ledger 3 2 3) 0 1) 1 2 (Err e) once c.in_err-add-2.ensures.book))

pub returns : goal.returns
returns c =
    let once = (add_answers c.new-below.result c.add.new.self (no_links 3) (fresh_ledger 3 2 3) 0 1 (Ok tt) c.new-below.ensures.making.0 c.in_ok-add.ensures.book).1 in
    let twice = (add_answers c.add.new.self c.add-2.new.self (added (no_links 3) 0 1) (lowered (fresh_ledger 3 2 3) 0 1) 1 2 (Ok tt) once c.in_ok-add-2.ensures.book).1 in
    let over = behind c.add-2.new.self c.new-book.result brought allowed hides twice c.new-book.ensures.stands in
    let first = c.open-board.result in
    let opened = at_opening c.new-book.result _ first (filtered hides brought) (filtered_ledger hides 3 allowed) over c.open-board.ensures.opens in
    let second = c.link.new.self in
    let refused = at_call first second start opened (link 0 1) c.link.result c.link.ensures in
    let third = c.unlink.new.self in
    let kept = at_call second third after_linking refused (unlink 0 1) c.unlink.result c.unlink.ensures in
    let linking = refused_with (λ v. v ≡ tt) (reason start (link 0 1)) c.link.result (record { refusal = Barred; layer = Book })
    (call_answers first second start opened (link 0 1) c.link.result c.link.ensures) played.barred in
    let unlinking = refused_with (λ v. v ≡ tt) (reason after_linking (unlink 0 1)) c.unlink.result (record { refusal = NotLinked; layer = Book })
    (call_answers second third after_linking refused (unlink 0 1) c.unlink.result c.unlink.ensures) played.not_linked in
    let partners = read_at third after_unlinking kept 3 c.partners.result played.inside c.partners.ensures ∙ ap Ok played.partners in
    let free_links = told_at third third after_unlinking kept (ask_free_links 1) c.free_links.result played.asked c.free_links.ensures ∙ ap Ok played.free_links in
    λ i. Ok (record { linking = linking i; unlinking = unlinking i; partners = partners i; free_links = free_links i })
