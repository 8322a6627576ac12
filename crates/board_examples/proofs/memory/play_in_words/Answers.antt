use Rattle.std.proofs.Common.{arith, rules, ◌∷◌, []}
use Rattle.board_examples.proofs.Lent.{words_exact}
use Rattle.board_examples.proofs.PlayedOut.{six_words, six_words_long}
use Rattle.board_examples.proofs.memory.play_in_words.Goals as goal

pub returns : goal.returns
returns c =
    let granted = c.in_ok-check.ensures in
    record {
      words = (
        granted.0,
        words_exact 6 (4 ∷ 32 ∷ 1 ∷ 0 ∷ 0 ∷ 2 ∷ []) c.args.words.now c.played_words-book.result.words.now _ six_words.values_are (c.played_words-book.ensures.words granted.0)
            (search rules) (λ i. omega (arith, c.type_inv.words i)) (six_words_long _ granted.0),
      );
      kept = tt;
    }
