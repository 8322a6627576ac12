use Rattle.class_filter.proofs.Through.{removes_through, granted_below}
use Rattle.class_filter.proofs.ClassFilterBook.remove.Goals as goal

pub returns-clause-removes : goal.returns-clause-removes
returns-clause-removes g c =
    removes_through g.B.Links.graph g.B.Links.made g.B.Book.ledger c.args.self.now c.remove.new.self c.args.a c.args.b c.remove.result
    c.in_ok-check_visible.ensures.seen c.remove.ensures.removes

pub returns-clause-below : goal.returns-clause-below
returns-clause-below g c = granted_below (g.B.Links.made c.args.self.now.below) _ _ c.remove.result c.remove.ensures.removes.answers
