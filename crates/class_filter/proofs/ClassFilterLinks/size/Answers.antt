use Rattle.class_filter.specs.Classes.{hidden}
use Rattle.class_filter.proofs.Filtered.{filtered_simple, hidden_symmetric}
use Rattle.class_filter.proofs.ClassFilterLinks.size.Goals as goal

pub returns-clause-simple : goal.returns-clause-simple
returns-clause-simple g c = λ made.
    let s = c.args.self.now in
    filtered_simple (hidden s.classes s.bars) (g.B.Links.graph s.below) (hidden_symmetric s.classes s.bars) (c.size.ensures.simple made)
