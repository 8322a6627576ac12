use Rattle.rules.proofs.Boards.{only_displaced_left}
use Rattle.rules.proofs.only_displacing_fails.Goals as goal

pub returns : goal.returns
returns c = only_displaced_left
