use Rattle.class_filter.specs.Classes.{hidden}
use Rattle.class_filter.proofs.Filtered.{filtered_bounded, hidden_symmetric}
use Rattle.class_filter.proofs.ClassFilterBook.limit.Goals as goal

pub returns-clause-bounded : goal.returns-clause-bounded
returns-clause-bounded g c = λ made.
    let s = c.args.self.now in
    filtered_bounded (hidden s.classes s.bars) (g.B.Links.graph s.below) (g.B.Book.ledger s.below) (hidden_symmetric s.classes s.bars) (c.limit.ensures.bounded made)
