use Rattle.rules.proofs.Calls.{call_follows}
use Rattle.rules.proofs.calls_follow.Goals as goal

pub returns : goal.returns
returns c = call_follows
