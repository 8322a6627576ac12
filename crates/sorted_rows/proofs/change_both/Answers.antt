use Rattle.std.proofs.Common.{arith}
use Rattle.sorted_rows.proofs.RowMemory.{both_rows_changed}
use Rattle.sorted_rows.proofs.change_both.Goals as goal

pub returns-then-b-from : goal.returns-then-b-from
returns-then-b-from c =
    both_rows_changed _ _ _ _ _ _ _ _ (omega arith) (omega arith) c.change_row.ensures c.change_row-then-b-from.ensures
