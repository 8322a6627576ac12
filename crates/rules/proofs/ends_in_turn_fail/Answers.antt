use Rattle.rules.proofs.Boards.{in_turn}
use Rattle.rules.proofs.ends_in_turn_fail.Goals as goal

pub returns : goal.returns
returns c = in_turn
