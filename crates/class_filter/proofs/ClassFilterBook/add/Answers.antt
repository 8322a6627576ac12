use Rattle.class_filter.proofs.Through.{adds_through, granted_below}
use Rattle.class_filter.proofs.ClassFilterBook.add.Goals as goal

pub returns-clause-adds : goal.returns-clause-adds
returns-clause-adds g c =
    adds_through g.B.Links.graph g.B.Links.made g.B.Book.ledger c.args.self.now c.add.new.self c.args.a c.args.b c.add.result
    c.in_ok-check_visible.ensures.seen c.add.ensures.adds

pub returns-clause-below : goal.returns-clause-below
returns-clause-below g c = granted_below (g.B.Links.made c.args.self.now.below) _ _ c.add.result c.add.ensures.adds.answers
