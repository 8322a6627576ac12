use Rattle.graph.proofs.Approximation.{approximation_ratio}
use Rattle.graph.proofs.approximation_ratio.Goals as goal

pub returns : goal.returns
returns c = approximation_ratio
