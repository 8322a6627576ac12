use Rattle.std.proofs.Common.{◌≡◌, ◌∙◌, refl, ap, rules}
use Rattle.graph.specs.Graph.{no_links}
use Rattle.links.specs.Books.{fresh_ledger}
use Rattle.sorted_rows.specs.Rows.{rows_graph, RowsMade, rows_ledger, RowsFixed, rows_fixed}
use Rattle.book_examples.proofs.Played.{granted_add, granted_answers, granted_keeps}
use Rattle.book_examples.proofs.Three.{linked_twice, unlinked}
use Rattle.book_examples.proofs.Numbers.{stands_fresh, long_enough, numbers_then}
use Rattle.book_examples.proofs.memory.link_in_numbers.Goals as goal

pub returns-in_err-add-clause-numbers : goal.returns-in_err-add-clause-numbers
returns-in_err-add-clause-numbers c =
    let granted = granted_add rows_graph RowsMade rows_ledger _ _ (no_links 3) (fresh_ledger 3 2 3) 0 1 _ (stands_fresh _ _ _ c.in_ok-check.ensures.0 c.new-book.ensures.making c.new-book.ensures.made) c.add.ensures.book refl in
    let e = c.in_err-add.was in
    cc

pub returns-in_err-add-clause-kept : goal.returns-in_err-add-clause-kept
returns-in_err-add-clause-kept c =
    let granted = granted_add rows_graph RowsMade rows_ledger _ _ (no_links 3) (fresh_ledger 3 2 3) 0 1 _ (stands_fresh _ _ _ c.in_ok-check.ensures.0 c.new-book.ensures.making c.new-book.ensures.made) c.add.ensures.book refl in
    let e = c.in_err-add.was in
    cc

pub returns-in_err-add-2-clause-numbers : goal.returns-in_err-add-2-clause-numbers
returns-in_err-add-2-clause-numbers c =
    let granted = linked_twice rows_graph RowsMade rows_ledger (fresh_ledger 3 2 3) _ _ _ _ _ refl refl (stands_fresh _ _ _ c.in_ok-check.ensures.0 c.new-book.ensures.making c.new-book.ensures.made) c.add.ensures.book c.add-2.ensures.book in
    let e = c.in_err-add-2.was in
    cc

pub returns-in_err-add-2-clause-kept : goal.returns-in_err-add-2-clause-kept
returns-in_err-add-2-clause-kept c =
    let granted = linked_twice rows_graph RowsMade rows_ledger (fresh_ledger 3 2 3) _ _ _ _ _ refl refl (stands_fresh _ _ _ c.in_ok-check.ensures.0 c.new-book.ensures.making c.new-book.ensures.made) c.add.ensures.book c.add-2.ensures.book in
    let e = c.in_err-add-2.was in
    cc

pub returns-clause-numbers : goal.returns-clause-numbers
returns-clause-numbers c =
    let stays : rows_fixed c.remove.new.self ≡ rows_fixed c.new-book.result = c.remove.ensures.stays ∙ c.add-2.ensures.stays ∙ c.add.ensures.stays in
    let lender = ap (λ (f : RowsFixed). f.lender) stays ∙ c.new-book.ensures.lender in
    let twice = linked_twice rows_graph RowsMade rows_ledger (fresh_ledger 3 2 3) _ _ _ _ _ refl refl (stands_fresh _ _ _ c.in_ok-check.ensures.0 c.new-book.ensures.making c.new-book.ensures.made) c.add.ensures.book c.add-2.ensures.book in
    let last = unlinked rows_graph RowsMade rows_ledger (fresh_ledger 3 2 3) _ _ _ twice.1 c.remove.ensures.book in
    granted_answers _ c.remove.result _ last.0 c.in_ok-check.ensures.0
    (numbers_then _ c.args.numbers.now _ c.new-book.result c.remove.new.self c.in_ok-check.ensures.0 c.new-book.ensures.making stays last.1.graph_is last.1.still_made c.memory_follows.ensures
    (search rules) (long_enough _ c.in_ok-check.ensures.0))

pub returns-clause-kept : goal.returns-clause-kept
returns-clause-kept c =
    let twice = linked_twice rows_graph RowsMade rows_ledger (fresh_ledger 3 2 3) _ _ _ _ _ refl refl (stands_fresh _ _ _ c.in_ok-check.ensures.0 c.new-book.ensures.making c.new-book.ensures.made) c.add.ensures.book c.add-2.ensures.book in
    granted_keeps c.remove.result _ _ (unlinked rows_graph RowsMade rows_ledger (fresh_ledger 3 2 3) _ _ _ twice.1 c.remove.ensures.book).0
