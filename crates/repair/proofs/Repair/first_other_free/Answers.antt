use Rattle.std.proofs.Common.{not, eqb, rules, tests}
use Rattle.repair.proofs.Others.{first_other}
use Rattle.repair.proofs.Bests.{free_best}
use Rattle.repair.proofs.Repair.first_other_free.Goals as goal

pub returns : goal.returns
returns g c =
    let t = c.args.tables.now in
    let before = g.R.Ranking.before c.args.self.now.ranking.now in
    first_other t c.args.y c.args.besides before
    (free_best _ (before c.args.y) t c.args.y c.free_loads.result c.free_loads.ensures.over c.free_loads.ensures.begins c.best_of.ensures
    (λ z. not (eqb z c.args.besides)) (λ z b answers. search (rules, tests)))
