use Rattle.std.proofs.Common.{ℕ, replicate}
use lib.ListN.{length-replicate}
use Rattle.links.specs.Refusals.{told}
use Rattle.transcript.proofs.Writing.{pairs_fit}
use Rattle.transcript.proofs.push_pairs.Goals as goal

pub returns-in_err-written : goal.returns-in_err-written
returns-in_err-written g c = λ stood.
    absurd (pairs_fit c.args.board.now (replicate {A = ℕ} 1024 0) (told c.in_err-written.field-0.0) stood (length-replicate {A = ℕ} 1024 0) (c.in_err-written.ensures.answers stood))
