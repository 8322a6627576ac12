use Rattle.bit_matrix.proofs.Cells.{words_hold}
use Rattle.bit_matrix.proofs.theorems.words_of_graph.Goals as goal

pub returns : goal.returns
returns c = words_hold
