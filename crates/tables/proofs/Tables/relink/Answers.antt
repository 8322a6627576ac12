use Rattle.tables.proofs.Agreement.{relinking}
use Rattle.tables.proofs.Tables.relink.Goals as goal

pub returns-in-Ok-Ok-clause-changed : goal.returns-in-Ok-Ok-clause-changed
returns-in-Ok-Ok-clause-changed c =
    let same-a = c.in-Ok-Ok.ensures.1 in
    let same-b = c.in-Ok-Ok.ensures'.1 in
    rw (same-a, same-b) at (relinking c.args.on c.in-Ok-Ok.a c.in-Ok-Ok.b c.put_link.ensures c.put_link-in-Ok-Ok.ensures)
