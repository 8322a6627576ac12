use Rattle.bit_matrix.proofs.Memory.{memory_holds}
use Rattle.bit_matrix.proofs.theorems.memory_follows.Goals as goal

pub returns : goal.returns
returns c = memory_holds
