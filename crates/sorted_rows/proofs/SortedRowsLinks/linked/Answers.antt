use Rattle.std.proofs.Common.{◌≡◌, ◌&&◌, eqb, ltb, length, get_or, rules}
use Rattle.sorted_rows.proofs.MadeRows.{found_linked}
use Rattle.sorted_rows.proofs.SortedRowsLinks.linked.Goals as goal

pub returns : goal.returns
returns c made =
    let found : c.is_some_and.result ≡ (ltb c.position.result (length c.row-row.result.now) && eqb (get_or c.row-row.result.now c.position.result 0) c.args.b) = search rules in
    found_linked _ _ _ _ _ made c.args.a c.args.b c.position.result c.row-row.result.now
    c.row-row.ensures c.position.ensures.first c.is_some_and.result found
