use Rattle.link_list.proofs.Joined.{list_simple}
use Rattle.link_list.proofs.LinkListLinks.size.Goals as goal

pub returns-clause-simple : goal.returns-clause-simple
returns-clause-simple c = list_simple _ _
