use Rattle.rules.specs.Repair.{freed}
use Rattle.tables.proofs.Agreement.{written_then, replacing}
use Rattle.tables.proofs.Tables.replace.Goals as goal

pub returns-in-Ok-Ok-Ok-clause-changed : goal.returns-in-Ok-Ok-Ok-clause-changed
returns-in-Ok-Ok-Ok-clause-changed g c = λ made simple.
    let loads = c.in-Ok-Ok-Ok in
    let same-a = loads.ensures.1 in
    let same-x = loads.ensures'.1 in
    let same-y = loads.ensures''.1 in
    let both = written_then (freed loads.y) c.write_pair.ensures c.write_partner.ensures in
    rw (same-a, same-x, same-y) at (replacing (g.L.Links.graph c.args.links.now) simple loads.a loads.x loads.y both (c.tell_linked.ensures made simple) (c.tell_linked-in-Ok-Ok-Ok.ensures made simple))
