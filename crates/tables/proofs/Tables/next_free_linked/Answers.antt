use Rattle.tables.proofs.Members.{no_set}
use Rattle.tables.proofs.Tables.next_free_linked.Goals as goal

pub returns-in_err-get-clause-value : goal.returns-in_err-get-clause-value
returns-in_err-get-clause-value c = rw c.from_residual.ensures (λ j _. no_set c.args.self.now c.args.a j c.in_err-get.ensures.lookup.3)
