use Rattle.bit_matrix.proofs.Full.{not_full}
use Rattle.bit_matrix.proofs.theorems.never_full.Goals as goal

pub returns : goal.returns
returns c = not_full
