use Rattle.sorted_rows.proofs.Memory.{spared}
use Rattle.sorted_rows.proofs.theorems.spares_left.Goals as goal

pub returns : goal.returns
returns c = spared
