use Rattle.rules.proofs.Runs.{sound_two_thirds}
use Rattle.rules.proofs.sound_two_thirds.Goals as goal

pub returns : goal.returns
returns c = sound_two_thirds
