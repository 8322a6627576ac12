use Rattle.sorted_rows.proofs.Rising.{nat_strict}
use Rattle.sorted_rows.proofs.theorems.numbers_are_ordered.Goals as goal

pub returns : goal.returns
returns c = nat_strict
