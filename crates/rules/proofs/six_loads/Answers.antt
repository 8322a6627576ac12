use Rattle.rules.proofs.Boards.{six_played}
use Rattle.rules.proofs.six_loads.Goals as goal

pub returns : goal.returns
returns c = six_played
