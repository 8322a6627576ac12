use Rattle.text.proofs.Lines.{means_command}
use Rattle.text.proofs.conversion.push_full_line.Goals as goal

pub returns-clause-reads_back : goal.returns-clause-reads_back
returns-clause-reads_back c = means_command c.args.command _ c.well_formed.1.0
