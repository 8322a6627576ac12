use Rattle.graph.proofs.Paths.{of_three}
use Rattle.graph.proofs.paths_of_three.Goals as goal

pub returns : goal.returns
returns c = of_three
