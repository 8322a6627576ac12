use Rattle.rules.specs.Repair.{paired}
use Rattle.tables.proofs.Agreement.{written_then, exchanging}
use Rattle.tables.proofs.Tables.exchange.Goals as goal

pub returns-in-Ok-Ok-Ok-Ok-clause-changed : goal.returns-in-Ok-Ok-Ok-Ok-clause-changed
returns-in-Ok-Ok-Ok-Ok-clause-changed g c = λ made simple.
    let loads = c.in-Ok-Ok-Ok-Ok in
    let same-a = loads.ensures.1 in
    let same-x = loads.ensures'.1 in
    let same-y = loads.ensures''.1 in
    let same-z = loads.ensures'''.1 in
    let both = written_then (paired loads.y loads.z) c.write_pair.ensures c.write_pair-in-Ok-Ok-Ok-Ok.ensures in
    rw (same-a, same-x, same-y, same-z) at (exchanging (g.L.Links.graph c.args.links.now) simple loads.a loads.x loads.y loads.z both (c.tell_linked.ensures made simple) (c.tell_linked-in-Ok-Ok-Ok-Ok.ensures made simple))
