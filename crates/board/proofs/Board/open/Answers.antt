use Rattle.std.proofs.Common.{◌≡◌, ℕ, ◌≤◌, List, take, subst, rules, arith}
use Rattle.rules.specs.Repair.{repair}
use Rattle.rules.specs.Threshold.{threshold}
use Rattle.repair.specs.Holds.{Changes}
use Rattle.board.proofs.Repairing.{repaired_by_limit}
use Rattle.board.proofs.Opened.{opens, opened_holds}
use Rattle.board.proofs.Numbers.{numbers_below}
use Rattle.board.proofs.Runs.{law}
use Rattle.board.proofs.Board.open.Goals as goal

pub returns : goal.returns
returns g c =
    let book = c.args.book in
    let graph = g.B.Links.graph book in
    let before = g.R.Ranking.before c.args.ranking in
    let ledger = g.B.Book.ledger book in
    let opening = opens g.B.Links.graph g.B.Links.made g.B.Book.ledger g.R.Ranking.before book c.args.ranking c.repair.new.tables
    c.size.ensures.simple c.repair_of.ensures.bounded (λ made.
    let simple = c.size.ensures.simple made in
    let value = c.size.ensures.value made in
    let small = simple.small in
    let same_size : c.min-size.result ≡ graph.size = omega (arith, c.min-size.ensures) in
    let items = c.from_fn-loads.ensures.items in
    let loads = c.from_fn-loads.result in
    let fits : c.min-size.result ≤ 256 = omega arith in
    let numbers = numbers_below 256 c.min-size.result loads items.long fits (λ k h. let (p, q, called) = items.at k 0 h in search rules) in
    let parts = c.repair_of.ensures in
    let listed = repaired_by_limit g.B.Links.graph g.B.Links.made g.B.Book.ledger g.R.Ranking.before c.repair_of.result book c.args.ranking (take c.min-size.result loads) c.recorded-tables.result c.repair.new.tables
    parts.links parts.ranking parts.limit c.repair.ensures in
    let change = subst (λ (l : List ℕ). Changes graph (repair before (threshold ledger.limit) graph l) c.recorded-tables.result c.repair.new.tables) numbers (listed made simple) in
    opened_holds before graph ledger c.min-size.result same_size
    (c.recorded-tables.ensures made simple same_size) change) in
    record {
      opens = opening;
      law = λ made. law g.B.Links.graph g.B.Links.made g.B.Book.ledger g.B.Book.fixed g.R.Ranking.before _ (opening.stands made);
    }
