use Rattle.std.proofs.Common.{inl, inr, arith}
use Rattle.std.proofs.lemmas.Bool.{cases_lt}
use Rattle.transcript.proofs.Playing.{left_stays, left_more, left_all, short_granted}
use Rattle.transcript.proofs.play_all.Goals as goal

pub loop-preserved : goal.loop-preserved
loop-preserved g c =
    let pushed = c.in_ok-next.ensures in (
      λ _. pushed.ends.0,
      λ stood.
          let left = c.loop.invariant.1 stood in
          left_more left c.loop-test.true (pushed.ends.1 left.stands) pushed.ranking_is c.if-next-place.false,
    )

pub returns-then-next-place : goal.returns-then-next-place
returns-then-next-place g c =
    let pushed = c.in_ok-next.ensures in (
      pushed.ends.0,
      λ stood. let left = c.loop.invariant.1 stood in left_stays left c.loop-test.true (pushed.ends.1 left.stands) c.if-next-place.true,
    )

pub returns : goal.returns
returns g c = (
  elim (cases_lt 0 c.loop.counter) [ inl some ↦ c.loop.invariant.0 some | inr none ↦ short_granted c.args.stream.now (omega (arith, none)) ],
  λ stood. left_all (c.loop.invariant.1 stood) c.loop-test.false,
)
