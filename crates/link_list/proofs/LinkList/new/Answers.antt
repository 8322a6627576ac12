use Rattle.std.proofs.Common.{refl}
use Rattle.link_list.proofs.LinkList.new.Goals as goal

pub returns-in-Err-clause-listing : goal.returns-in-Err-clause-listing
returns-in-Err-clause-listing c = rw c.in-Err.ensures refl
