use Rattle.std.proofs.Common.{◌≡◌, [], ◌∷◌, Option, sym, refl, ap, ◌∙◌, subst}
use Rattle.graph.specs.Graph.{no_links, added}
use Rattle.links.specs.Books.{lowered}
use Rattle.links.specs.Refusals.{Reason}
use Rattle.bit_matrix.specs.declared.BitMatrix.{BitMatrix}
use Rattle.class_filter.specs.declared.ClassFilter.{ClassFilter}
use Rattle.bit_matrix.specs.Matrix.{matrix_graph, MatrixFixed, matrix_fixed, Making}
use Rattle.class_filter.specs.Classes.{filtered, filtered_ledger, FilterFixed, filter_fixed}
use Rattle.links.specs.Books.{fresh_ledger}
use Rattle.rules.specs.Calls.{Position, unlink}
use Rattle.board.specs.Runs.{none, more}
use Rattle.board_examples.proofs.Brought.{added_stands, behind}
use Rattle.board_examples.proofs.HiddenLinks.{hides, brought, allowed, start}
use Rattle.board_examples.proofs.HiddenWords.{after_hidden, after_visible, left, same_hidden, hidden_words}
use Rattle.board_examples.proofs.Lent.{words_left}
use Rattle.board_examples.proofs.Positions.{at_opening, at_call}
use Rattle.board_examples.specs.Lent.{WordsAre}
use Rattle.board_examples.proofs.memory.filtered_words.Goals as goal

pub returns-clause-words : goal.returns-clause-words
returns-clause-words c = λ granted.
    let making = (subst (λ (o : Option Reason). Making o 3 3 c.args.words.now c.new-below.result) granted c.new-below.ensures.making).0 in
    let once = added_stands c.new-below.result c.add.new.self (no_links 3) (fresh_ledger 3 2 3) 0 1 c.add.result refl making c.add.ensures.book in
    let twice = added_stands c.add.new.self c.add-2.new.self (added (no_links 3) 0 1) (lowered (fresh_ledger 3 2 3) 0 1) 1 2 c.add-2.result refl once c.add-2.ensures.book in
    let book = c.new-book.result in
    let over = behind c.add-2.new.self book brought allowed hides twice c.new-book.ensures.stands in
    let first = c.open-board.result in
    let opened = at_opening book _ first (filtered hides brought) (filtered_ledger hides 3 allowed) over c.open-board.ensures.opens in
    let second = c.unlink.new.self in
    let refused = at_call first second start opened (unlink 0 1) c.unlink.result c.unlink.ensures in
    let third = c.unlink-2.new.self in
    let parted = at_call second third after_hidden refused (unlink 1 2) c.unlink-2.result c.unlink-2.ensures in
    let run = more second (more first none (unlink 0 1) c.unlink.result second c.unlink.ensures) (unlink 1 2) c.unlink-2.result third c.unlink-2.ensures in
    let moment = c.open-board.ensures.law over.still_made third run in
    let fixed : filter_fixed matrix_fixed third.book ≡ filter_fixed matrix_fixed book = moment.fixed_is ∙ ap (filter_fixed matrix_fixed) c.open-board.ensures.opens.book_is in
    let stays : matrix_fixed third.book.below ≡ matrix_fixed c.new-below.result =
    ap (λ (k : FilterFixed MatrixFixed). k.below) fixed ∙ ap matrix_fixed c.new-book.ensures.below ∙ c.add-2.ensures.stays ∙ c.add.ensures.stays in
    let hidden_is = same_hidden third.book book (1 ∷ 2 ∷ 0 ∷ []) (0 ∷ 4 ∷ 0 ∷ 0 ∷ 0 ∷ 0 ∷ 0 ∷ 0 ∷ []) (ap (λ (k : FilterFixed MatrixFixed). k.classes) fixed) (ap (λ (k : FilterFixed MatrixFixed). k.bars) fixed) c.new-book.ensures.classes c.new-book.ensures.bars in
    let words = hidden_words third.book after_visible (ap (λ (x : Position). x.graph) parted.position_is) (ap (λ (x : Position). x.ledger) parted.position_is) moment.stands.book_made hidden_is left in
    let given : c.into_below.result ≡ third.book.below = c.into_below.ensures ∙ ap (λ (f : ClassFilter BitMatrix). f.below) c.into_book.ensures in
    subst (λ (m : BitMatrix). WordsAre (2 ∷ 1 ∷ 0 ∷ []) c.args.words.now m.words.now) (sym given)
    (words_left 3 3 _ c.args.words.now c.new-below.result third.book.below (matrix_graph third.book.below) (2 ∷ 1 ∷ 0 ∷ []) granted c.new-below.ensures.making stays refl moment.stands.book_made c.memory_follows.ensures words)

pub returns-clause-lender : goal.returns-clause-lender
returns-clause-lender c =
    let last = c.unlink-2.new.self in
    let fixed : filter_fixed matrix_fixed last.book ≡ filter_fixed matrix_fixed c.new-book.result =
    c.unlink-2.ensures.fixed_is ∙ c.unlink.ensures.fixed_is ∙ ap (filter_fixed matrix_fixed) c.open-board.ensures.opens.book_is in
    let stays : matrix_fixed last.book.below ≡ matrix_fixed c.new-below.result =
    ap (λ (k : FilterFixed MatrixFixed). k.below) fixed ∙ ap matrix_fixed c.new-book.ensures.below ∙ c.add-2.ensures.stays ∙ c.add.ensures.stays in
    let given : c.into_below.result ≡ last.book.below = c.into_below.ensures ∙ ap (λ (f : ClassFilter BitMatrix). f.below) c.into_book.ensures in
    ap (λ (m : BitMatrix). m.words.ghost_name) given ∙ ap (λ (f : MatrixFixed). f.lender) stays ∙ c.new-below.ensures.lender
