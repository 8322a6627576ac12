use Rattle.std.proofs.Common.{ltb, sym, ap, ◌∙◌}
use Rattle.std.proofs.lemmas.Bool.{ltb-true}
use Rattle.rules.specs.Threshold.{threshold}
use Rattle.repair.proofs.Displacing.{displace_pair}
use Rattle.repair.proofs.Repair.displace.Goals as goal

pub returns-in-Some-partner : goal.returns-in-Some-partner
returns-in-Some-partner g c = λ made simple free agrees matching.
    displace_pair (g.R.Ranking.before c.args.self.now.ranking.now) (threshold c.args.self.now.limit) (g.L.Links.graph c.args.self.now.links.now) c.args.a agrees matching
    (ltb-true (threshold c.args.self.now.limit) _ (ap (ltb (threshold c.args.self.now.limit)) (sym c.degree.ensures) ∙ sym c.is_heavy.ensures ∙ c.if-is_heavy.true))
    c.in-Some.x (sym (c.in-Some.ensures made simple agrees)) simple c.in-Some-partner.y (sym c.partner.ensures.value ∙ c.in-Some-partner.is)
    free (c.replace.ensures.changed made simple) (c.augment.ensures made simple)
