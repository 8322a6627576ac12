use Rattle.std.proofs.Common.{length, not, refl, rules, tests, arith}
use Rattle.std.proofs.lemmas.Iterator.{YieldsList-from_range}
use Rattle.std.proofs.lemmas.Iterator.Search.{find_from_yields_List}
use Rattle.audit.specs.Claims.{claimed, returned}
use Rattle.audit.proofs.Lowest.{lowest_found}
use Rattle.audit.proofs.Claimed.first_not_returned.Goals as goal

pub returns : goal.returns
returns g c =
    let claims = c.args.self.now.claims.now in
    lowest_found (λ a. not (returned (claimed claims) a)) (length claims) (length claims) refl _
    (find_from_yields_List (λ a. not (returned (claimed claims) a)) _ _ _ c.find.ensures.ran (YieldsList-from_range 0 (length claims) (length claims) refl (omega arith)) (λ x b q k. search (rules, tests)))
