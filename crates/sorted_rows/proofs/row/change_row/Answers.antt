use Rattle.std.proofs.Common.{arith, sym}
use Rattle.sorted_rows.proofs.RowMemory.{row_changed}
use Rattle.sorted_rows.specs.declared.row.Change.TheVariants.{Insert, Remove}
use Rattle.sorted_rows.proofs.row.change_row.Goals as goal

pub returns-in-Insert : goal.returns-in-Insert
returns-in-Insert c = rw c.in-Insert.is (rw (sym c.from.ensures) (rw (sym c.from-width.ensures) (row_changed Insert _ _ _ _ _ _ (omega arith) c.if-start-width.true c.insert.auto.row c.insert.ensures.inserted c.insert.ensures.kept)))

pub returns-in-Remove : goal.returns-in-Remove
returns-in-Remove c = rw c.in-Remove.is (rw (sym c.from.ensures) (rw (sym c.from-width.ensures) (row_changed Remove _ _ _ _ _ _ (omega arith) c.if-start-width.true c.remove.auto.row c.remove.ensures.removed c.remove.ensures.kept)))
