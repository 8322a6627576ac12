use Rattle.std.proofs.Common.{sym, ◌∙◌, rules, tests}
use Rattle.std.proofs.lemmas.Iterator.{YieldsList-from_slice}
use Rattle.std.proofs.lemmas.Iterator.Search.{any_from_yields_List}
use Rattle.link_list.specs.Entries.{joins}
use Rattle.link_list.proofs.Joined.{joined_all}
use Rattle.link_list.proofs.LinkListLinks.linked.Goals as goal

pub returns : goal.returns
returns c = λ made.
    any_from_yields_List (λ e. joins e c.args.a c.args.b) _ _ _ c.any.ensures.ran (YieldsList-from_slice c.args.self.now.entries.now cc) (λ x b q k. search (rules, tests))
    ∙ sym (joined_all c.args.self.now.entries.now c.args.a c.args.b)
