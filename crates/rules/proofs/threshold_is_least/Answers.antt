use Rattle.rules.proofs.Threshold.{threshold_least}
use Rattle.rules.proofs.threshold_is_least.Goals as goal

pub returns : goal.returns
returns c = threshold_least
