use Rattle.std.proofs.Common.{vec_items, refl}
use Rattle.board.specs.Boards.{position}
use Rattle.bit_matrix.specs.Matrix.{matrix_graph, matrix_ledger}
use Rattle.transcript.proofs.Law.{keeps_law}
use Rattle.transcript.proofs.Writing.{started, transcribed}
use Rattle.transcript.proofs.transcript.Goals as goal

pub returns-clause-ends : goal.returns-clause-ends
returns-clause-ends c =
    let opens = c.open-board.ensures.opens in
    let played = c.in_ok-play_all.ensures in
    let plays = played.1 (opens.stands c.new-book.ensures.made) in
    let x = position matrix_graph matrix_ledger c.open-board.result in
    let all = transcribed x c.args.input.now (vec_items c.new-text.result) (vec_items c.play_all.new.text) (vec_items c.push_pairs.new.text)
    (started refl c.new-book.ensures.making.0 opens) c.new-text.ensures.items plays (c.in_ok-push_pairs.ensures plays.stands).1 in
    (played.0, all)

pub returns-clause-law : goal.returns-clause-law
returns-clause-law c = keeps_law c.args.input.now

pub returns-in_err-play_all-clause-law : goal.returns-in_err-play_all-clause-law
returns-in_err-play_all-clause-law c = keeps_law c.args.input.now

pub returns-in_err-push_pairs-clause-law : goal.returns-in_err-push_pairs-clause-law
returns-in_err-push_pairs-clause-law c = keeps_law c.args.input.now
