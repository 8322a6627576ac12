use Rattle.std.proofs.Common.{rules}
use Rattle.board_examples.proofs.Lent.{numbers_exact}
use Rattle.board_examples.proofs.memory.play_in_numbers.Goals as goal

pub returns : goal.returns
returns c =
    let granted = c.in_ok-check.ensures in
    record {
      numbers = (granted.0, numbers_exact _ c.played_numbers-book.result.rows.now _ (search rules) (c.played_numbers-book.ensures.numbers granted.0));
      kept = tt;
    }
