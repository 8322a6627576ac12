use Rattle.std.proofs.Common.{refl}
use Rattle.graph.specs.Graph.{no_links}
use Rattle.links.specs.Books.{fresh_ledger}
use Rattle.sorted_rows.specs.Rows.{rows_graph, rows_ledger, RowsMade}
use Rattle.book_examples.proofs.Played.{granted_then_refused}
use Rattle.book_examples.proofs.full_row.Goals as goal

pub returns : goal.returns
returns c =
    granted_then_refused rows_graph RowsMade rows_ledger c.new-book.result c.add-first.new.self c.add-second.new.self (no_links 3) (fresh_ledger 3 1 3) 0 1 0 2 9 c.add-first.result c.add-second.result
    (record { graph_is = c.new-book.ensures.making.0.graph; ledger_is = c.new-book.ensures.making.0.ledger; still_made = c.new-book.ensures.made })
    c.add-first.ensures.book c.add-second.ensures.book refl refl
