use Rattle.std.proofs.Common.{◌≡◌, ◌∙◌, refl, ap, arith, rules}
use Rattle.links.specs.Books.{fresh_ledger}
use Rattle.bit_matrix.specs.Matrix.{matrix_graph, MatrixMade, matrix_ledger, MatrixFixed, matrix_fixed}
use Rattle.book_examples.proofs.Played.{granted_answers, granted_keeps}
use Rattle.book_examples.proofs.Three.{linked_twice, unlinked}
use Rattle.book_examples.proofs.Words.{stands_fresh, long_enough, words_then}
use Rattle.book_examples.proofs.memory.link_in_words.Goals as goal

pub returns-in_err-add-2-clause-words : goal.returns-in_err-add-2-clause-words
returns-in_err-add-2-clause-words c =
    let granted = linked_twice matrix_graph MatrixMade matrix_ledger (fresh_ledger 3 2 3) _ _ _ _ _ refl refl (stands_fresh _ _ _ c.in_ok-check.ensures.0 c.new-book.ensures.making) c.add.ensures.book c.add-2.ensures.book in
    let e = c.in_err-add-2.was in
    cc

pub returns-in_err-add-2-clause-kept : goal.returns-in_err-add-2-clause-kept
returns-in_err-add-2-clause-kept c =
    let granted = linked_twice matrix_graph MatrixMade matrix_ledger (fresh_ledger 3 2 3) _ _ _ _ _ refl refl (stands_fresh _ _ _ c.in_ok-check.ensures.0 c.new-book.ensures.making) c.add.ensures.book c.add-2.ensures.book in
    let e = c.in_err-add-2.was in
    cc

pub returns-clause-words : goal.returns-clause-words
returns-clause-words c =
    let stays : matrix_fixed c.remove.new.self ≡ matrix_fixed c.new-book.result = c.remove.ensures.stays ∙ c.add-2.ensures.stays ∙ c.add.ensures.stays in
    let lender = ap (λ (f : MatrixFixed). f.lender) stays ∙ c.new-book.ensures.lender in
    let twice = linked_twice matrix_graph MatrixMade matrix_ledger (fresh_ledger 3 2 3) _ _ _ _ _ refl refl (stands_fresh _ _ _ c.in_ok-check.ensures.0 c.new-book.ensures.making) c.add.ensures.book c.add-2.ensures.book in
    let last = unlinked matrix_graph MatrixMade matrix_ledger (fresh_ledger 3 2 3) _ _ _ twice.1 c.remove.ensures.book in
    granted_answers _ c.remove.result _ last.0 c.in_ok-check.ensures.0
    (words_then _ c.args.words.now _ c.new-book.result c.remove.new.self c.in_ok-check.ensures.0 c.new-book.ensures.making stays last.1.graph_is last.1.still_made c.memory_follows.ensures
    (search rules) (λ i. omega (arith, c.type_inv.words i)) (long_enough _ c.in_ok-check.ensures.0))

pub returns-clause-kept : goal.returns-clause-kept
returns-clause-kept c =
    let twice = linked_twice matrix_graph MatrixMade matrix_ledger (fresh_ledger 3 2 3) _ _ _ _ _ refl refl (stands_fresh _ _ _ c.in_ok-check.ensures.0 c.new-book.ensures.making) c.add.ensures.book c.add-2.ensures.book in
    granted_keeps c.remove.result _ _ (unlinked matrix_graph MatrixMade matrix_ledger (fresh_ledger 3 2 3) _ _ _ twice.1 c.remove.ensures.book).0
