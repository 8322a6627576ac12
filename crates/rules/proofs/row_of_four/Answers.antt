use Rattle.rules.proofs.Boards.{row_played}
use Rattle.rules.proofs.row_of_four.Goals as goal

pub returns : goal.returns
returns c = row_played
