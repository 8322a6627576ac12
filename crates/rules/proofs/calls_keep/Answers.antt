use Rattle.rules.proofs.Calls.{call_kept}
use Rattle.rules.proofs.calls_keep.Goals as goal

pub returns : goal.returns
returns c = call_kept
