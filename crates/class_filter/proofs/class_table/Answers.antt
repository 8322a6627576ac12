use Rattle.class_filter.proofs.Table.{table_read}
use Rattle.class_filter.proofs.class_table.Goals as goal

pub returns : goal.returns
returns c = table_read 256 c.min-given.result c.copy_from_slice.new.self c.args.classes.now c.min-given.ensures c.copy_from_slice.ensures.after
