use Rattle.tables.specs.Views.{free_linked}
use Rattle.tables.proofs.Firsts.{first_more, first_is, free_step}
use Rattle.tables.proofs.Tables.first_free.Goals as goal

pub loop-x-preserved : goal.loop-x-preserved
loop-x-preserved g c =
    let (over, at, next) = free_step c.args.self.now c.args.a c.loop-x.invariant.2 c.in-Some.ensures.steps in
    let better = first_more (g.R.Ranking.before c.args.ranking.now c.args.a) (free_linked c.args.self.now c.args.a) c.loop-x.x-iterator.from c.in-Some.x c.loop-x.best next c.loop-x.invariant.3 c.earlier.ensures at in
    (tt, tt, over, better)

pub returns : goal.returns
returns g c =
    let (over, at, next) = free_step c.args.self.now c.args.a c.loop-x.invariant.2 c.in-None.ensures.steps in
    first_is (g.R.Ranking.before c.args.ranking.now) c.args.self.now c.args.a c.loop-x.x-iterator.from c.loop-x.best c.loop-x.invariant.3 next
