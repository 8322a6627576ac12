use Rattle.std.proofs.Common.{refl}
use Rattle.graph.specs.Graph.{no_links}
use Rattle.links.specs.Books.{fresh_ledger}
use Rattle.bit_matrix.specs.Matrix.{matrix_graph, matrix_ledger, MatrixMade}
use Rattle.book_examples.proofs.Played.{granted_then_refused}
use Rattle.book_examples.proofs.full_matrix.Goals as goal

pub returns : goal.returns
returns c =
    granted_then_refused matrix_graph MatrixMade matrix_ledger c.new-book.result c.add-first.new.self c.add-second.new.self (no_links 4) (fresh_ledger 4 3 1) 0 1 2 3 10 c.add-first.result c.add-second.result
    c.new-book.ensures.making.0 c.add-first.ensures.book c.add-second.ensures.book refl refl
