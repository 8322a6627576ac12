use Rattle.std.proofs.Common.{refl, ap, ◌∙◌, arith}
use Rattle.std.proofs.lemmas.Bool.Decides.{nat_tests}
use Rattle.rules.specs.Repair.{light_partner}
use Rattle.rules.specs.Threshold.{threshold}
use Rattle.repair.proofs.Others.{asked}
use Rattle.repair.proofs.changes.has_light_partner.Goals as goal

pub returns : goal.returns
returns c = λ graph agrees.
    let light = light_partner graph (threshold c.args.limit) in
    asked light c.partner.result c.is_some_and.result _ c.is_some_and.ensures refl (λ y answer. let same = agrees.tracks.degrees y in grind (arith, nat_tests)) ∙ ap light c.partner.ensures.value
