use Rattle.std.proofs.Common.{rules}
use Rattle.strict_order.specs.StrictOrder.{comes_before}
use Rattle.strict_order.proofs.Order.{strict_total, first_unordered_is}
use Rattle.strict_order.proofs.first_unordered.Goals as goal

pub returns-clause-first : goal.returns-clause-first
returns-clause-first g c =
    first_unordered_is (comes_before g.T.Ord.cmp) (strict_total g.T.Ord.cmp g.met.T.Ord.total).transitive c.args.records.now _ (search rules)
