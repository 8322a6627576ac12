use Rattle.rules.proofs.Boards.{refusals_told}
use Rattle.rules.proofs.refusals_told.Goals as goal

pub returns : goal.returns
returns c = refusals_told
