use Rattle.std.proofs.Common.{sym, ◌∙◌}
use Rattle.tables.proofs.Steps.{counted_told, counted_only}
use Rattle.tables.proofs.Tables.put_link.Goals as goal

pub returns-then-free : goal.returns-then-free
returns-then-free c = counted_told c.args.on c.args.a c.args.b _ _ _ (c.count_link.ensures c.args.b) (sym c.is_free-free.ensures ∙ c.if-free.true) c.tell.ensures

pub returns-else-free : goal.returns-else-free
returns-else-free c = counted_only c.args.on c.args.a c.args.b _ _ _ (c.count_link.ensures c.args.b) (sym c.is_free-free.ensures ∙ c.if-free.false)
