use Rattle.std.proofs.Common.{◌≡◌, ◌∷◌, [], Option, sym, ap, ◌∙◌, subst}
use Rattle.graph.specs.Graph.{no_links}
use Rattle.links.specs.Refusals.{Reason}
use Rattle.bit_matrix.specs.declared.BitMatrix.{BitMatrix}
use Rattle.bit_matrix.specs.Matrix.{MatrixFixed, matrix_fixed, Making}
use Rattle.links.specs.Books.{fresh_ledger}
use Rattle.board.specs.Runs.{none}
use Rattle.board_examples.specs.Lent.{links_left, WordsAre}
use Rattle.board_examples.proofs.Lent.{words_left}
use Rattle.board_examples.proofs.PlayedOut.{six_words}
use Rattle.board_examples.proofs.Positions.{at_opening}
use Rattle.board_examples.proofs.memory.played_words.Goals as goal

pub returns : goal.returns
returns c =
    let first = c.open-board.result in
    let last = c.play_out.new.board in
    let moment = c.open-board.ensures.law c.new.ensures.made last (c.play_out.ensures.run first none) in
    let stays : matrix_fixed last.book ≡ matrix_fixed c.new.result = moment.fixed_is ∙ ap matrix_fixed c.open-board.ensures.opens.book_is in
    record {
      lender = ap (λ (m : BitMatrix). m.words.ghost_name) c.into_book.ensures ∙ ap (λ (f : MatrixFixed). f.lender) stays ∙ c.new.ensures.lender;
      words = λ granted.
          let making = (subst (λ (o : Option Reason). Making o 6 8 c.args.words.now c.new.result) granted c.new.ensures.making).0 in
          let opened = at_opening c.new.result _ first (no_links 6) (fresh_ledger 6 5 8) making c.open-board.ensures.opens in
          subst (λ (m : BitMatrix). WordsAre (4 ∷ 32 ∷ 1 ∷ 0 ∷ 0 ∷ 2 ∷ []) c.args.words.now m.words.now) (sym c.into_book.ensures)
          (words_left 6 8 _ c.args.words.now c.new.result last.book links_left (4 ∷ 32 ∷ 1 ∷ 0 ∷ 0 ∷ 2 ∷ []) granted c.new.ensures.making stays (c.play_out.ensures.graph_is opened.stands opened.position_is) moment.stands.book_made c.memory_follows.ensures six_words);
    }
