use Rattle.std.proofs.Common.{◌≡◌, ℕ, ◌-◌, ◌<◌, ◌≤◌, None, length, take, drop, cond, ap, ◌∙◌, subst, arith, length-drop}
use Rattle.std.specs.Result.{result_unwrap_or}
use Rattle.std.proofs.lemmas.List.{length-take-le}
use Rattle.graph.specs.Pairs.{below_partner, pairs}
use Rattle.board.specs.Boards.{position, Stands}
use Rattle.board.proofs.Told.{told_partner}
use Rattle.tables.specs.Views.{partners_of}
use Rattle.stream.proofs.Listing.{Listed, book_size, all_fit, at_most_eight, listed_more, lists_written}
use Rattle.stream.proofs.Stepping.{fits}
use Rattle.stream.specs.Pairs.{lower_line}
use Rattle.stream.proofs.list_pairs.Goals as goal

pub returns-in_err-written : goal.returns-in_err-written
returns-in_err-written g c =
    let a = c.loop-a.a in
    let partner = c.unwrap_or-partner.result in
    let few = at_most_eight (below_partner a partner) (length (lower_line a partner)) c.write_lower.ensures.short in
    let h = c.unwrap_or-partner.array_long in
    let w = c.in_err-written.ensures.writes in
    absurd (fits (lower_line a partner) (take (2048 - c.loop-a.written) (drop c.loop-a.written c.loop-a.lines)) c.in_err-written.field-0.0
    (omega (arith, few, length-take-le (2048 - c.loop-a.written) (drop c.loop-a.written c.loop-a.lines), length-drop c.loop-a.written c.loop-a.lines, h, c.loop-a.invariant.within)) w.answers)

pub loop-a-preserved : goal.loop-a-preserved
loop-a-preserved g c =
    let a = c.loop-a.a in
    let partner = c.unwrap_or-partner.result in
    let few = at_most_eight (below_partner a partner) (length (lower_line a partner)) c.write_lower.ensures.short in
    let un = c.unwrap_or-partner.ensures in
    let w = c.in_ok-written.ensures.writes in
    record {
      within = omega arith;
      listed = λ stood.
          let size = book_size g.B.Links.graph g.B.Links.made c.book.result.now c.args.board.now.book c.book.ensures c.size.result c.size.ensures.value stood.book_made in
          let inside : a < (g.B.Links.graph c.args.board.now.book).size = omega (arith, size) in
          let asked = told_partner c.args.board.now c.args.board.now stood a inside c.partner.result c.partner.ensures.answers in
          let is : partner ≡ partners_of c.args.board.now.tables a = c.unwrap_or-partner.ensures ∙ ap (λ r. result_unwrap_or r None) asked in
          listed_more (partners_of c.args.board.now.tables) c.loop-a.lines c.write_lower.new.out (lower_line a partner) (drop c.in_ok-written.field-0 (take (2048 - c.loop-a.written) (drop c.loop-a.written c.loop-a.lines)))
          a c.loop-a.written c.in_ok-written.field-0 (2048 - c.loop-a.written) (c.loop-a.invariant.listed stood) (omega (arith, c.unwrap_or-partner.array_long))
          (ap (lower_line a) is) w.answers.1.0 (subst (λ o. length (lower_line a partner) ≤ cond (below_partner a o) 8 0) is c.write_lower.ensures.short) w.answers.1.1;
    }

pub returns : goal.returns
returns g c =
    let s = c.args.board.now in
    let p = partners_of s.tables in
    let graph = g.B.Links.graph s.book in
    let k = c.loop-a.written in
    let stands = Stands g.B.Links.graph g.B.Links.made g.B.Book.ledger s in
    let all : stands → c.loop-a.a ≡ graph.size = λ stood.
    let size = book_size g.B.Links.graph g.B.Links.made c.book.result.now s.book c.book.ensures c.size.result c.size.ensures.value stood.book_made in
    omega (arith, size, stood.sound.simple.small, c.loop-a-test.false, c.loop-a.auto.a-end) in
    let listed : stands → Listed graph.size p c.loop-a.lines k = λ stood. subst (λ (n : ℕ). Listed n p c.loop-a.lines k) (all stood) (c.loop-a.invariant.listed stood) in
    let pairs : stands → c.pair_count.result ≡ pairs graph.size p = λ stood. (c.pair_count.ensures.partners stood).value in
    lists_written stands (position g.B.Links.graph g.B.Book.ledger s) (take k c.loop-a.lines) c.args.out.now c.write_start.new.out c.write_start.result c.write_start.ensures
    (λ stood. (listed stood).lines_are)
    (λ stood. omega (arith, pairs stood))
    (λ stood. all_fit graph p stood.sound.simple stood.sound.healthy.matching c.loop-a.lines k (omega (arith, c.loop-a-test.array_long, c.loop-a.invariant.within, c.loop-a.auto.a-end)) (listed stood).few)
