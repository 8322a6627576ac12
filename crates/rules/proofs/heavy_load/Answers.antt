use Rattle.rules.proofs.Boards.{star_played}
use Rattle.rules.proofs.heavy_load.Goals as goal

pub returns : goal.returns
returns c = star_played
