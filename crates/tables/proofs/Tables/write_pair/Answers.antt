use Rattle.std.proofs.Common.{Some}
use Rattle.tables.specs.Steps.{with_partner}
use Rattle.tables.proofs.Agreement.{written_then}
use Rattle.tables.proofs.Tables.write_pair.Goals as goal

pub returns : goal.returns
returns c = written_then (with_partner c.args.a (Some c.args.b)) c.write_partner.ensures c.write_partner-2.ensures
