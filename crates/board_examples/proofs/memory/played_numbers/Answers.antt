use Rattle.std.proofs.Common.{◌≡◌, Option, ap, ◌∙◌, subst}
use Rattle.graph.specs.Graph.{no_links}
use Rattle.links.specs.Books.{Stands}
use Rattle.links.specs.Refusals.{Reason}
use Rattle.sorted_rows.specs.declared.SortedRows.{SortedRows}
use Rattle.sorted_rows.specs.Rows.{rows_graph, RowsMade, rows_ledger, RowsFixed, rows_fixed, Making}
use Rattle.links.specs.Books.{fresh_ledger}
use Rattle.board.specs.Runs.{none}
use Rattle.board_examples.specs.Lent.{links_left}
use Rattle.board_examples.proofs.Lent.{numbers_left}
use Rattle.board_examples.proofs.Positions.{at_opening}
use Rattle.board_examples.proofs.memory.played_numbers.Goals as goal

pub returns : goal.returns
returns c =
    let first = c.open-board.result in
    let last = c.play_out.new.board in
    let moment = c.open-board.ensures.law c.new.ensures.made last (c.play_out.ensures.run first none) in
    let stays : rows_fixed last.book ≡ rows_fixed c.new.result = moment.fixed_is ∙ ap rows_fixed c.open-board.ensures.opens.book_is in
    record {
      lender = ap (λ (s : SortedRows). s.rows.ghost_name) c.into_book.ensures ∙ ap (λ (f : RowsFixed). f.lender) stays ∙ c.new.ensures.lender;
      numbers = λ granted.
          let new = (subst (λ (o : Option Reason). Making o 6 5 8 c.args.numbers.now c.new.result) granted c.new.ensures.making).0 in
          let making : Stands rows_graph RowsMade rows_ledger c.new.result (no_links 6) (fresh_ledger 6 5 8) = record { graph_is = new.graph; ledger_is = new.ledger; still_made = c.new.ensures.made } in
          let opened = at_opening c.new.result _ first (no_links 6) (fresh_ledger 6 5 8) making c.open-board.ensures.opens in
          ap (λ (s : SortedRows). s.rows.now) c.into_book.ensures
          ∙ numbers_left 6 5 8 _ c.args.numbers.now c.new.result last.book links_left granted c.new.ensures.making stays (c.play_out.ensures.graph_is opened.stands opened.position_is) moment.stands.book_made c.memory_follows.ensures;
    }
