use Rattle.std.proofs.Common.{sym, ◌∙◌, arith}
use Rattle.rules.specs.Threshold.{threshold}
use Rattle.repair.proofs.Displacing.{improve_taken, improve_alone, improve_other}
use Rattle.repair.proofs.Repair.improve.Goals as goal
use Rattle.repair.proofs.Repair.improve.Goals.{then-not-is_free-via-then-not-is_free, then-not-is_free-via-else-not-is_free+then-degree-eq0}

pub returns-then-not-is_free : goal.returns-then-not-is_free
returns-then-not-is_free g c = λ made simple agrees matching.
    let before = g.R.Ranking.before c.args.self.now.ranking.now in
    let graph = g.L.Links.graph c.args.self.now.links.now in
    let most = threshold c.args.self.now.limit in
    elim c.then-not-is_free.branch [
      | then-not-is_free-via-then-not-is_free w ↦
          improve_taken before most graph c.args.a agrees matching (sym c.is_free.ensures ∙ w.if-not-is_free.true)
      | then-not-is_free-via-else-not-is_free+then-degree-eq0 w ↦
          improve_alone before most graph c.args.a agrees matching (sym c.is_free.ensures ∙ w.if-not-is_free.false) simple (omega (arith, w.degree.ensures, w.if-degree-eq0))
    ]

pub returns-then-not-augment : goal.returns-then-not-augment
returns-then-not-augment g c = λ made simple agrees matching.
    improve_other (g.R.Ranking.before c.args.self.now.ranking.now) (threshold c.args.self.now.limit) (g.L.Links.graph c.args.self.now.links.now) c.args.a agrees matching (sym c.is_free.ensures ∙ c.if-not-is_free.false)
    c.if-not-augment.true (c.augment.ensures made simple) (c.displace.ensures made simple)
