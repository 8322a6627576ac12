use Rattle.std.proofs.Common.{◌≡◌, ◌∙◌, arith}
use Rattle.board.proofs.Recording.{record_none, record_all}
use Rattle.board.proofs.opening.recorded.Goals as goal

pub loop-a-init : goal.loop-a-init
loop-a-init g c = λ made simple _. record_none (g.L.Links.graph c.args.links.now) simple c.new-tables.ensures

pub returns : goal.returns
returns g c = λ made simple e.
    let all : c.loop-a.a ≡ c.args.size = omega (arith, c.loop-a.auto.a-end, c.loop-a-test.false) in
    record_all (g.L.Links.graph c.args.links.now) simple c.loop-a.a (all ∙ e) (c.loop-a.invariant made simple (omega (arith, e)))
