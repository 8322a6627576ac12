use Rattle.tables.proofs.Agreement.{pairing}
use Rattle.tables.proofs.Tables.pair.Goals as goal

pub returns-in-Ok-Ok-clause-changed : goal.returns-in-Ok-Ok-clause-changed
returns-in-Ok-Ok-clause-changed g c = λ made simple.
    let same-a = c.in-Ok-Ok.ensures.1 in
    let same-b = c.in-Ok-Ok.ensures'.1 in
    rw (same-a, same-b) at (pairing (g.L.Links.graph c.args.links.now) simple c.in-Ok-Ok.a c.in-Ok-Ok.b c.write_pair.ensures (c.tell_linked.ensures made simple) (c.tell_linked-in-Ok-Ok.ensures made simple))
