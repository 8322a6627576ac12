use Rattle.std.proofs.Common.{ℕ, sym, subst, arith}
use Rattle.board.specs.Recording.{AllFree, links_before}
use Rattle.board.proofs.Recording.{linked_step, record_more, record_row}
use Rattle.board.proofs.opening.record_below.Goals as goal

pub loop-b-preserved : goal.loop-b-preserved
loop-b-preserved g c =
    let links = c.args.links.now in
    let so_far = c.loop-b.invariant in
    let step = c.in-Some.ensures.steps in
    let (over, on, next) = linked_step g.L.Links.made g.L.Links.graph links c.args.a c.args.a so_far.2 step in (
      tt,
      tt,
      over,
      λ made simple inside free.
          subst (λ (n : ℕ). AllFree (links_before (g.L.Links.graph links) c.args.a n) c.link.new.self) (sym on)
          (record_more (g.L.Links.graph links) simple c.args.a c.loop-b.b-iterator.from c.in-Some.b (next made) (omega (arith, step.within, so_far.2.end_is)) inside
          (so_far.3 made simple inside free) c.link.ensures.changed),
    )

pub returns : goal.returns
returns g c = λ made simple inside free.
    let links = c.args.links.now in
    let so_far = c.loop-b.invariant in
    let (over, on, next) = linked_step g.L.Links.made g.L.Links.graph links c.args.a c.args.a so_far.2 c.in-None.ensures.steps in
    record_row (g.L.Links.graph links) simple c.args.a c.loop-b.b-iterator.from (next made) (so_far.3 made simple inside free)
