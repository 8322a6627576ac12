use Rattle.std.proofs.Common.{get_or}
use Rattle.rules.specs.Repair.{each, match_free, improve}
use Rattle.rules.specs.Threshold.{threshold}
use Rattle.repair.proofs.Rounds.{changes_then, matches, each_more, each_all}
use Rattle.repair.proofs.Repair.repair.Goals as goal

pub loop-load-preserved : goal.loop-load-preserved
loop-load-preserved g c = λ made simple.
    let before = g.R.Ranking.before c.args.self.now.ranking.now in
    let graph = g.L.Links.graph c.args.self.now.links.now in
    let loads = c.args.loads.now in
    let at = c.loop-load.load-index in
    each_more (match_free before graph) graph loads at c.loop-load-test.true (c.loop-load.invariant made simple) (matches graph simple before (get_or loads at 0) (c.match_free.ensures.matched made simple))

pub loop-load-2-preserved : goal.loop-load-2-preserved
loop-load-2-preserved g c = λ made simple.
    let better = improve (g.R.Ranking.before c.args.self.now.ranking.now) (threshold c.args.self.now.limit) (g.L.Links.graph c.args.self.now.links.now) in
    each_more better (g.L.Links.graph c.args.self.now.links.now) c.args.loads.now c.loop-load-2.load-index c.loop-load-2-test.true (c.loop-load-2.invariant made simple) (c.improve.ensures made simple)

pub returns : goal.returns
returns g c = λ made simple.
    let before = g.R.Ranking.before c.args.self.now.ranking.now in
    let graph = g.L.Links.graph c.args.self.now.links.now in
    let loads = c.args.loads.now in
    let better = improve before (threshold c.args.self.now.limit) graph in
    changes_then graph (each (match_free before graph) loads) (each better loads)
    (each_all (match_free before graph) graph loads c.loop-load.load-index c.loop-load-test.false (c.loop-load.invariant made simple))
    (each_all better graph loads c.loop-load-2.load-index c.loop-load-2-test.false (c.loop-load-2.invariant made simple))
