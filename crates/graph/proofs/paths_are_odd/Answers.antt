use Rattle.graph.proofs.Paths.{odd_links}
use Rattle.graph.proofs.paths_are_odd.Goals as goal

pub returns : goal.returns
returns c = odd_links
