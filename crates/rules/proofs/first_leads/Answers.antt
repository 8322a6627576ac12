use Rattle.rules.proofs.First.{first_is}
use Rattle.rules.proofs.first_leads.Goals as goal

pub returns : goal.returns
returns c = first_is
