use Rattle.std.proofs.Common.{arith}
use Rattle.link_list.proofs.Joined.{link_count_is}
use Rattle.link_list.proofs.LinkListLinks.link_count.Goals as goal

pub returns : goal.returns
returns c = λ made. link_count_is _ _ made _ (omega arith)
