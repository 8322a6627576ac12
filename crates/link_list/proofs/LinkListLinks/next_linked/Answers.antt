use Rattle.std.proofs.Common.{ℕ, Bool, length, min, sym, ◌∙◌, subst, rules, tests}
use Rattle.std.proofs.lemmas.Iterator.{YieldsList-from_slice}
use Rattle.std.proofs.lemmas.Iterator.Adapters.{option_map_id}
use Rattle.std.proofs.lemmas.Iterator.Consumers.{YieldsList-from_filter_map, min_from_yields_List}
use Rattle.std.specs.List.{filter_map, reduce}
use Rattle.graph.specs.Graph.{Next}
use Rattle.link_list.specs.Entries.{next_joined}
use Rattle.link_list.specs.Lists.{joined}
use Rattle.link_list.proofs.Firsts.{next_of_entries}
use Rattle.link_list.proofs.Joined.{joined_all}
use Rattle.link_list.proofs.LinkListLinks.next_linked.Goals as goal

pub returns : goal.returns
returns c = λ made.
    let es = c.args.self.now.entries.now in
    let found = sym (option_map_id c.min.result) ∙ min_from_yields_List c.filter_map.result c.min.result c.min.ensures.ran
    (YieldsList-from_filter_map _ (λ e. next_joined e c.args.a c.args.from) (YieldsList-from_slice es cc) c.filter_map.ensures.closure (λ x r q k. search (rules, tests))) in
    subst (Next (joined es (length es) c.args.a) c.args.from) (sym found)
    (subst (λ (linked : ℕ → Bool). Next linked c.args.from (reduce min (filter_map (λ e. next_joined e c.args.a c.args.from) es))) (λ i y. sym (joined_all es c.args.a y) i)
    (next_of_entries c.args.a c.args.from es))
