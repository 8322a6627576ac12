use Rattle.std.proofs.Common.{length, sym, ap, ◌∙◌}
use Rattle.sorted_rows.proofs.MadeRows.{degree_is}
use Rattle.sorted_rows.proofs.SortedRowsLinks.degree.Goals as goal

pub returns : goal.returns
returns c made = ap length c.row.ensures ∙ sym (degree_is _ _ _ _ _ made c.args.a)
