use Rattle.sorted_rows.proofs.Memory.{memory_holds}
use Rattle.sorted_rows.proofs.theorems.memory_follows.Goals as goal

pub returns : goal.returns
returns c = memory_holds
