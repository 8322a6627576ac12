use Rattle.std.proofs.Common.{ℕ, ◌&&◌, eqb, length, not, ◌∙◌, rules, tests}
use Rattle.std.proofs.lemmas.Iterator.Search.{find_from_yields_List}
use Rattle.links.proofs.InOrder.{YieldsList-from_linked_loads}
use Rattle.graph.specs.Pairs.{is_free}
use Rattle.audit.specs.Claims.{claimed}
use Rattle.audit.proofs.Lowest.{lowest_member}
use Rattle.audit.proofs.Shapes.{ends_tested}
use Rattle.audit.proofs.Claimed.free_neighbour.Goals as goal

pub returns : goal.returns
returns g c = λ made simple whole.
    let s = c.args.self.now in
    let graph = g.L.Links.graph s.links.now in
    let test = λ (z : ℕ). not (eqb z c.args.a) && is_free (claimed s.claims.now) z in
    lowest_member (graph.linked c.args.y) test (length s.claims.now) graph.size whole _
    (find_from_yields_List test _ _ _ c.find.ensures.ran
    (YieldsList-from_linked_loads g.L.Links.graph g.L.Links.made s.links.now c.args.y 0 (length s.claims.now) c.linked_loads.result c.linked_loads.ensures.over c.linked_loads.ensures.begins made)
    (λ x b q k. search (rules, tests)))
    ∙ ends_tested graph (claimed s.claims.now) c.args.a c.args.y
