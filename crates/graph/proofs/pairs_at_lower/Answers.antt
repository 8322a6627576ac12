use Rattle.graph.proofs.Pairs.{at_lower}
use Rattle.graph.proofs.pairs_at_lower.Goals as goal

pub returns : goal.returns
returns c = at_lower
