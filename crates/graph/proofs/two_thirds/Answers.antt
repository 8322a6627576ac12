use Rattle.graph.proofs.TwoThirds.{two_thirds}
use Rattle.graph.proofs.two_thirds.Goals as goal

pub returns : goal.returns
returns c = two_thirds
