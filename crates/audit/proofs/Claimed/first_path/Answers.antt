use Rattle.std.proofs.Common.{ℕ, cond, length, None, refl, ◌∙◌, rules, tests, arith}
use Rattle.std.proofs.lemmas.Iterator.{YieldsList-from_range}
use Rattle.links.proofs.FindMap.{find_map_from_yields_List}
use Rattle.graph.specs.Pairs.{is_free}
use Rattle.audit.specs.Claims.{claimed}
use Rattle.audit.proofs.Lowest.{lowest_mapped}
use Rattle.audit.proofs.Claimed.first_path.Goals as goal

pub returns : goal.returns
returns g c = λ path_at tells.
    let claims = c.args.self.now.claims.now in
    let path = λ (a : ℕ). cond (is_free (claimed claims) a) (path_at a) None in
    find_map_from_yields_List _ (λ a. a) _ path _ (λ x o q k. search (rules, tests, tells)) _ _ c.find_map.ensures.ran c.find_map.ensures.runs
    (YieldsList-from_range 0 (length claims) (length claims) refl (omega arith))
    ∙ lowest_mapped path (length claims) (length claims) refl
