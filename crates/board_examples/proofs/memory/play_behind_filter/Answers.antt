use Rattle.std.proofs.Common.{arith, rules, ◌∷◌, []}
use Rattle.board_examples.proofs.Lent.{words_exact}
use Rattle.board_examples.proofs.HiddenWords.{three_narrow, three_words_long}
use Rattle.board_examples.proofs.memory.play_behind_filter.Goals as goal

pub returns : goal.returns
returns c =
    let granted = c.in_ok-check.ensures in
    record {
      words = (
        granted.0,
        words_exact 3 (2 ∷ 1 ∷ 0 ∷ []) c.args.words.now c.filtered_words-book.result.words.now _ three_narrow (c.filtered_words-book.ensures.words granted.0)
            (search rules) (λ i. omega (arith, c.type_inv.words i)) (three_words_long _ granted.0),
      );
      kept = tt;
    }
