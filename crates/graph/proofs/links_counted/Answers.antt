use Rattle.graph.proofs.Changes.{link_count_added, link_count_removed, link_count_isolated}
use Rattle.graph.proofs.links_counted.Goals as goal

pub returns : goal.returns
returns c = λ g s. record {
  adding = λ a b. link_count_added g a b s;
  removing = λ a b. link_count_removed g a b s;
  isolating = λ a. link_count_isolated g a s;
}
