use Rattle.std.proofs.Common.{not, ◌∙◌, rules, tests}
use Rattle.std.proofs.lemmas.Iterator.Consumers.{YieldsList-at, YieldsList-from_filter, count_from_yields_List}
use Rattle.links.proofs.InOrder.{YieldsList-from_linked_loads, count_from_members}
use Rattle.class_filter.specs.Classes.{hidden}
use Rattle.class_filter.proofs.ClassFilter.count_visible.Goals as goal

pub returns-clause-value : goal.returns-clause-value
returns-clause-value g c = λ made.
    let s = c.args.self.now in
    count_from_yields_List c.filter.result _ c.count.ensures.ran
    (YieldsList-from_filter _ (λ b. not (hidden s.classes s.bars c.args.a b))
    (YieldsList-at c.filter.ensures.source (YieldsList-from_linked_loads g.B.Links.graph g.B.Links.made s.below c.args.a 0 c.args.end c.linked_loads.result c.linked_loads.ensures.over c.linked_loads.ensures.begins made))
    c.filter.ensures.closure (λ x b q k. search (rules, tests)))
    ∙ count_from_members ((g.B.Links.graph s.below).linked c.args.a) (λ b. not (hidden s.classes s.bars c.args.a b)) c.args.end
