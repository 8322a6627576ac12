use Rattle.std.proofs.Common.{rules}
use Rattle.sorted_rows.proofs.MadeRows.{found_next}
use Rattle.sorted_rows.proofs.SortedRowsLinks.next_linked.Goals as goal

pub returns : goal.returns
returns c made =
    found_next _ _ _ _ _ made c.args.a c.args.from c.position.result c.row-row.result.now
    c.row-row.ensures c.position.ensures.first c.map.result (search rules)
