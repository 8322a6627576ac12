use Rattle.std.proofs.Common.{None}
use Rattle.tables.specs.Steps.{with_partner}
use Rattle.tables.proofs.Agreement.{written_then, parting}
use Rattle.tables.proofs.Tables.part.Goals as goal

pub returns-in-Ok-Ok-clause-changed : goal.returns-in-Ok-Ok-clause-changed
returns-in-Ok-Ok-clause-changed g c = λ made simple.
    let same-a = c.in-Ok-Ok.ensures.1 in
    let same-b = c.in-Ok-Ok.ensures'.1 in
    let both = written_then (with_partner c.in-Ok-Ok.a None) c.write_partner.ensures c.write_partner-in-Ok-Ok.ensures in
    rw (same-a, same-b) at (parting (g.L.Links.graph c.args.links.now) simple c.in-Ok-Ok.a c.in-Ok-Ok.b both (c.tell_linked.ensures made simple) (c.tell_linked-in-Ok-Ok.ensures made simple))
