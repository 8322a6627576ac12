use Rattle.std.proofs.Common.{not, rules, tests}
use Rattle.std.proofs.lemmas.Iterator.Search.{find_from_yields_List}
use Rattle.links.proofs.InOrder.{YieldsList-from_linked_loads, NextBelow-from_members, Next-from_below}
use Rattle.class_filter.specs.Classes.{hidden, filter_graph}
use Rattle.class_filter.proofs.Filtered.{filtered_simple, hidden_symmetric}
use Rattle.class_filter.proofs.ClassFilterLinks.next_linked.Goals as goal

pub returns : goal.returns
returns g c = λ made.
    let s = c.args.self.now in
    Next-from_below (filter_graph g.B.Links.graph s)
    (filtered_simple (hidden s.classes s.bars) (g.B.Links.graph s.below) (hidden_symmetric s.classes s.bars) (c.size.ensures.simple made))
    c.args.a c.args.from c.size.result (c.size.ensures.value made) c.find.result
    (NextBelow-from_members ((g.B.Links.graph s.below).linked c.args.a) (λ b. not (hidden s.classes s.bars c.args.a b)) c.args.from c.size.result _
    (find_from_yields_List (λ b. not (hidden s.classes s.bars c.args.a b)) _ _ _ c.find.ensures.ran
    (YieldsList-from_linked_loads g.B.Links.graph g.B.Links.made s.below c.args.a c.args.from c.size.result c.linked_loads_from.result c.linked_loads_from.ensures.over c.linked_loads_from.ensures.begins made)
    (λ x b q k. search (rules, tests))))
