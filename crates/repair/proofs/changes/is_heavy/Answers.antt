use Rattle.repair.proofs.Heavy.{heavy_is}
use Rattle.repair.proofs.changes.is_heavy.Goals as goal

pub returns-then-degree-gt0 : goal.returns-then-degree-gt0
returns-then-degree-gt0 c = heavy_is c.args.limit c.args.degree c.saturating_sub-below.result c.if-degree-gt0.true c.saturating_sub-below.ensures
