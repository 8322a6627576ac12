use Rattle.std.proofs.Common.{ℕ, ap, ◌∙◌, arith, rules, tests}
use Rattle.std.proofs.lemmas.Iterator.{YieldsList-from_range, YieldsList-from_map}
use Rattle.std.proofs.lemmas.Iterator.Consumers.{sum_by_from_yields_List}
use Rattle.std.specs.List.{range_with_len}
use Rattle.graph.specs.Graph.{count, total}
use Rattle.class_filter.specs.Classes.{filter_graph}
use Rattle.class_filter.proofs.Totals.{total_from_sum, row_sums_fit}
use Rattle.class_filter.proofs.ClassFilterLinks.link_count.Goals as goal

pub sum-requires-clause-fits : goal.sum-requires-clause-fits
sum-requires-clause-fits g c =
    row_sums_fit _ _ _ (λ x r q k. search (rules, tests)) c.min-size.result c.map.result c.map.ensures.closure (omega arith)
    (YieldsList-from_range 0 c.min-size.result c.min-size.result c.map.ensures.source (omega arith))

pub returns : goal.returns
returns g c = λ made.
    let linked = (filter_graph g.B.Links.graph c.args.self.now).linked in
    sum_by_from_yields_List (λ a. count a (linked a)) (range_with_len 0 c.min-size.result) c.map.result _ c.sum.ensures.ran
    (YieldsList-from_map _ (λ a. count a (linked a)) (YieldsList-from_range 0 c.min-size.result c.min-size.result c.map.ensures.source (omega arith)) c.map.ensures.closure (λ x r q k. search (rules, tests)))
    ∙ total_from_sum c.min-size.result (λ a. count a (linked a))
    ∙ ap (λ (n : ℕ). total n (λ a. count a (linked a))) (omega (arith, c.size.ensures.value made, (c.size.ensures.simple made).small))
