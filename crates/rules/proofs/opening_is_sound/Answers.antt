use Rattle.rules.proofs.Calls.{opening_sound}
use Rattle.rules.proofs.opening_is_sound.Goals as goal

pub returns : goal.returns
returns c = opening_sound
