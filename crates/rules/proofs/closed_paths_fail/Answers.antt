use Rattle.rules.proofs.Boards.{closed}
use Rattle.rules.proofs.closed_paths_fail.Goals as goal

pub returns : goal.returns
returns c = closed
