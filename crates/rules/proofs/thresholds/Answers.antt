use Rattle.std.proofs.Common.{refl}
use Rattle.rules.proofs.thresholds.Goals as goal

pub returns : goal.returns
returns c = (refl, refl, refl, refl)
