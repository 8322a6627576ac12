use Rattle.rules.proofs.OneByOne.{one_by_one}
use Rattle.rules.proofs.links_one_by_one.Goals as goal

pub returns : goal.returns
returns c = one_by_one
