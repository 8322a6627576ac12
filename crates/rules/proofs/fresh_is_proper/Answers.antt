use Rattle.rules.proofs.Boards.{fresh_proper}
use Rattle.rules.proofs.fresh_is_proper.Goals as goal

pub returns : goal.returns
returns c = fresh_proper
