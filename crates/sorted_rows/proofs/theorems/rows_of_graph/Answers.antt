use Rattle.sorted_rows.proofs.Memory.{rows_hold}
use Rattle.sorted_rows.proofs.theorems.rows_of_graph.Goals as goal

pub returns : goal.returns
returns c = rows_hold
