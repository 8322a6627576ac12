use Rattle.std.proofs.Common.{ℕ, None, sym, ◌∙◌, subst}
use Rattle.graph.specs.Graph.{NextBelow}
use Rattle.repair.proofs.Bests.{member_takes, member_skips, member_ends, member_on, step_next}
use Rattle.repair.proofs.best.best_of.Goals as goal

pub loop-x-preserved-then-test : goal.loop-x-preserved-then-test
loop-x-preserved-then-test g c =
    let so_far = c.loop-x.invariant in
    let step = c.in-Some.ensures.steps in
    let (same, stop, low, on) = member_on g.S.NextMember.reliable g.S.NextMember.member c.args.members.set c.args.members.end c.in-Some.x step so_far.3 so_far.4 in (
      so_far.0,
      tt,
      tt,
      same,
      stop,
      (λ _. low),
      (λ sure begins test tells.
          member_takes (g.R.Ranking.before c.args.ranking.now c.args.a) (g.S.NextMember.member c.args.members.set) test c.loop-x.x-iterator.from c.in-Some.x c.loop-x.best
          (step_next g.S.NextMember.reliable g.S.NextMember.member c.args.members.set step so_far.3 sure) (so_far.6 sure begins test tells)
          (sym (tells c.in-Some.x c.test.result c.test.ensures) ∙ c.if-test.true) c.earlier.ensures on),
    )

pub loop-x-preserved : goal.loop-x-preserved
loop-x-preserved g c =
    let so_far = c.loop-x.invariant in
    let step = c.in-Some.ensures.steps in
    let (same, stop, low, on) = member_on g.S.NextMember.reliable g.S.NextMember.member c.args.members.set c.args.members.end c.in-Some.x step so_far.3 so_far.4 in (
      so_far.0,
      tt,
      tt,
      same,
      stop,
      (λ _. low),
      (λ sure begins test tells.
          member_skips (g.R.Ranking.before c.args.ranking.now c.args.a) (g.S.NextMember.member c.args.members.set) test c.loop-x.x-iterator.from c.in-Some.x c.loop-x.best
          (step_next g.S.NextMember.reliable g.S.NextMember.member c.args.members.set step so_far.3 sure) (so_far.6 sure begins test tells)
          (sym (tells c.in-Some.x c.test.result c.test.ensures) ∙ c.if-test.false) on),
    )

pub returns : goal.returns
returns g c = λ sure begins test tells.
    let so_far = c.loop-x.invariant in
    let member = g.S.NextMember.member c.args.members.set in
    let from = c.loop-x.x-iterator.from in
    let none = step_next g.S.NextMember.reliable g.S.NextMember.member c.args.members.set c.in-None.ensures.steps so_far.3 sure in
    member_ends (g.R.Ranking.before c.args.ranking.now c.args.a) member test from c.args.members.end c.loop-x.best (so_far.6 sure begins test tells) (so_far.5 begins)
    (subst (λ (n : ℕ). NextBelow member from n None) so_far.4 none)
