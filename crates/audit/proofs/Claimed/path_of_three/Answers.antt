use Rattle.std.proofs.Common.{length, ◌∙◌, rules, tests}
use Rattle.links.proofs.FindMap.{find_map_from_yields_List}
use Rattle.links.proofs.InOrder.{YieldsList-from_linked_loads}
use Rattle.audit.specs.Claims.{claimed}
use Rattle.audit.specs.Verdicts.{path_over_at}
use Rattle.audit.proofs.Lowest.{lowest_mapped_member}
use Rattle.audit.proofs.Claimed.path_of_three.Goals as goal

pub returns : goal.returns
returns g c = λ made simple whole.
    let s = c.args.self.now in
    let graph = g.L.Links.graph s.links.now in
    let over = path_over_at graph (claimed s.claims.now) c.args.a in
    find_map_from_yields_List _ (λ x. x) _ over _ (λ x o q k. search (rules, tests)) _ _ c.find_map.ensures.ran c.find_map.ensures.runs
    (YieldsList-from_linked_loads g.L.Links.graph g.L.Links.made s.links.now c.args.a 0 (length s.claims.now) c.linked_loads.result c.linked_loads.ensures.over c.linked_loads.ensures.begins made)
    ∙ lowest_mapped_member (graph.linked c.args.a) over (length s.claims.now) graph.size whole
