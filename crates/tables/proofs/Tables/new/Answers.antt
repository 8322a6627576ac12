use Rattle.tables.proofs.New.{new_tables}
use Rattle.tables.proofs.Tables.new.Goals as goal

pub returns : goal.returns
returns c = new_tables 4 256
