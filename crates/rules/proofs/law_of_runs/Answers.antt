use Rattle.rules.proofs.Runs.{law_of_runs}
use Rattle.rules.proofs.law_of_runs.Goals as goal

pub returns : goal.returns
returns c = law_of_runs
