use Rattle.std.proofs.Common.{◌≡◌, ℕ, Some, None, subst}
use Rattle.links.specs.Books.{unless_two_of}
use Rattle.links.specs.Refusals.{told}
use Rattle.links.specs.declared.refusal.Layer.TheVariants.{Book}
use Rattle.links.proofs.Reasons.{not_refused, two_refused, refused_by}
use Rattle.links.proofs.check_open.Goals as goal

pub returns-in_err-check_two : goal.returns-in_err-check_two
returns-in_err-check_two g c made =
    let size = (g.L.Links.graph c.args.links.now).size in
    refused_by _ c.in_err-check_two.field-0.0 c.from_residual.result _ c.from_residual.ensures.1
    (two_refused Book size c.args.a c.args.b _ _ _ (not_refused _ _)
    (subst (λ (n : ℕ). unless_two_of Book n c.args.a c.args.b None ≡ Some (told c.in_err-check_two.field-0.0)) (c.size.ensures.value made) c.in_err-check_two.ensures))
