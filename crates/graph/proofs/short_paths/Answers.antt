use Rattle.graph.proofs.Short.{short_paths}
use Rattle.graph.proofs.short_paths.Goals as goal

pub returns : goal.returns
returns c = short_paths
