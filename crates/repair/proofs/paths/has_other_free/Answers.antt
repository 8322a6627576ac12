use Rattle.std.proofs.Common.{ltb, sym, ap, ◌∙◌}
use Rattle.repair.proofs.Others.{other_besides, other_any}
use Rattle.repair.proofs.paths.has_other_free.Goals as goal

pub returns-then-is_free_linked : goal.returns-then-is_free_linked
returns-then-is_free_linked c = λ graph simple agrees.
    ap (ltb 1) c.free_degree.ensures ∙ other_besides c.args.tables.now c.args.y c.args.besides (sym c.is_free_linked.ensures ∙ c.if-is_free_linked.true) graph simple agrees

pub returns-else-is_free_linked : goal.returns-else-is_free_linked
returns-else-is_free_linked c = λ graph simple agrees.
    ap (ltb 0) c.free_degree-else-is_free_linked.ensures ∙ other_any c.args.tables.now c.args.y c.args.besides (sym c.is_free_linked.ensures ∙ c.if-is_free_linked.false) graph simple agrees
