use Rattle.std.proofs.Common.{length, not, refl, rules, tests, arith}
use Rattle.std.proofs.lemmas.Iterator.{YieldsList-from_range}
use Rattle.std.proofs.lemmas.Iterator.Search.{find_from_yields_List}
use Rattle.audit.specs.Claims.{claimed}
use Rattle.audit.specs.Verdicts.{is_linked}
use Rattle.audit.proofs.Lowest.{lowest_found}
use Rattle.audit.proofs.Claimed.first_not_linked.Goals as goal

pub returns : goal.returns
returns g c = λ made simple whole.
    let s = c.args.self.now in
    let test = is_linked (g.L.Links.graph s.links.now) (claimed s.claims.now) in
    lowest_found (λ a. not (test a)) (length s.claims.now) (g.L.Links.graph s.links.now).size whole _
    (find_from_yields_List (λ a. not (test a)) _ _ _ c.find.ensures.ran (YieldsList-from_range 0 (length s.claims.now) (length s.claims.now) refl (omega arith)) (λ x b q k. search (rules, tests)))
