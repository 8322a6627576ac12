use Rattle.std.proofs.Common.{◌∙◌, rules, tests}
use Rattle.std.proofs.lemmas.Iterator.{YieldsList-from_slice}
use Rattle.std.proofs.lemmas.Iterator.Consumers.{YieldsList-from_filter, count_from_yields_List}
use Rattle.link_list.specs.Entries.{touches}
use Rattle.link_list.proofs.Joined.{degree_all}
use Rattle.link_list.proofs.LinkListLinks.degree.Goals as goal

pub returns : goal.returns
returns c = λ made.
    count_from_yields_List c.filter.result _ c.count.ensures.ran
    (YieldsList-from_filter _ (λ e. touches e c.args.a) (YieldsList-from_slice c.args.self.now.entries.now cc) c.filter.ensures.closure (λ x b q k. search (rules, tests)))
    ∙ degree_all _ _ made c.args.a
