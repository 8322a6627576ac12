use Rattle.graph.proofs.Paths.{of_one}
use Rattle.graph.proofs.paths_of_one.Goals as goal

pub returns : goal.returns
returns c = λ g s p _. of_one g s p
