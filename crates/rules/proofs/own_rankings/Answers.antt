use Rattle.rules.proofs.Boards.{ranked_played}
use Rattle.rules.proofs.own_rankings.Goals as goal

pub returns : goal.returns
returns c = ranked_played
