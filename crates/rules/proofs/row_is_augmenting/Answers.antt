use Rattle.rules.proofs.Boards.{row_augmenting}
use Rattle.rules.proofs.row_is_augmenting.Goals as goal

pub returns : goal.returns
returns c = row_augmenting
