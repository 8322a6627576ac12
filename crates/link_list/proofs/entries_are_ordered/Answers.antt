use Rattle.link_list.proofs.Checks.{entry_strict}
use Rattle.link_list.proofs.entries_are_ordered.Goals as goal

pub returns : goal.returns
returns c = entry_strict
