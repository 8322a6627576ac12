use Rattle.rules.proofs.Calls.{refused_unchanged}
use Rattle.rules.proofs.refused_unchanged.Goals as goal

pub returns : goal.returns
returns c = refused_unchanged
