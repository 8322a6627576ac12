use Rattle.std.proofs.Common.{◌≡◌, ◌+◌, ◌<◌, eqb, [], length, get_or, rules, tests, arith, ap, ◌∙◌, zero-add}
use Rattle.std.specs.List.{enumerate_from}
use Rattle.std.proofs.lemmas.List.{length_push, get_or_default}
use Rattle.std.proofs.lemmas.List.FromFn.{get_or-enumerate_from, length-enumerate_from}
use Rattle.std.proofs.lemmas.Result.{err_from_is_err_and}
use Rattle.std.proofs.lemmas.Iterator.Consumers.{YieldsList-at, YieldsList-from_enumerate, YieldsList-turn, YieldsList-end}
use Rattle.std.proofs.lemmas.Iterator.Splits.{YieldsList-from_slice_split}
use Rattle.text.specs.Conversion.{lines}
use Rattle.text.proofs.Texts.{refused, too_many, sofar_more, sofar_all}
use Rattle.text.proofs.conversion.encode.Goals as goal
use Rattle.text.proofs.conversion.encode.Goals.{In-Some}

turn : (c : In-Some) → (length c.loop-i.yielded < length (lines c.args.text.now)) × ((c.in-Some.i ≡ length c.loop-i.yielded) × (c.in-Some.line.now ≡ get_or (lines c.args.text.now) (length c.loop-i.yielded) []))
turn c =
    let all = enumerate_from 0 (lines c.args.text.now) in
    let t = YieldsList-turn {all = all} (YieldsList-at c.into_iter-i-iterator.ensures.into_iter_gives
    (YieldsList-from_enumerate (YieldsList-at c.enumerate-i-items.ensures.source (YieldsList-from_slice_split _ (λ b. eqb b 10) c.args.text.now c.split.ensures.rest c.split.ensures.done c.split.ensures.closure (λ x b q k. search (rules, tests)))) c.enumerate-i-items.ensures.count))
    c.loop-i.yielded _ c.loop-i.yielded_by _ _ (c.in-Some.i, c.in-Some.line) c.in-Some.is c.next.ensures.steps in
    let inside : length c.loop-i.yielded < length (lines c.args.text.now) = omega (arith, t.0, length-enumerate_from 0 (lines c.args.text.now)) in
    let is = t.1 ∙ get_or-enumerate_from 0 (lines c.args.text.now) (length c.loop-i.yielded) _ inside in
    (inside, (ap (λ p. p.0) is ∙ zero-add (length c.loop-i.yielded), ap (λ p. p.1) is ∙ get_or_default (lines c.args.text.now) (length c.loop-i.yielded) _ [] inside))

pub returns-in_err-push_line : goal.returns-in_err-push_line
returns-in_err-push_line c =
    let t = turn (goal.at.returns-in_err-push_line c).In-Some in
    let p = err_from_is_err_and c.from_residual.result c.from_residual.ensures.1 in
    rw (p.1, p.2) (refused c.loop-i.invariant _ t.0 t.1.1 _ _ c.in_err-push_line.field-0.0 (ap (λ i. i + 1) t.1.0) c.in_err-push_line.ensures)

pub returns-then-len-gt-LONGEST_STREAM : goal.returns-then-len-gt-LONGEST_STREAM
returns-then-len-gt-LONGEST_STREAM c =
    let t = turn (goal.at.returns-then-len-gt-LONGEST_STREAM c).In-Some in
    too_many c.loop-i.invariant _ t.0 t.1.1 _ c.in_ok-push_line.ensures.1 c.in_ok-push_line.ensures.0 (omega (arith, c.push_line.new.stream.ok.0))

pub loop-i-preserved : goal.loop-i-preserved
loop-i-preserved c =
    let t = turn (goal.at.loop-i-preserved c).In-Some in
    rw (length_push c.loop-i.yielded (c.in-Some.i, c.in-Some.line))
    (sofar_more c.loop-i.invariant _ t.0 t.1.1 _ c.in_ok-push_line.ensures.1 c.in_ok-push_line.ensures.0 (omega (arith, c.push_line.new.stream.ok.0)))

pub returns : goal.returns
returns c =
    let all = enumerate_from 0 (lines c.args.text.now) in
    let e = YieldsList-end {all = all} (YieldsList-at c.into_iter-i-iterator.ensures.into_iter_gives
    (YieldsList-from_enumerate (YieldsList-at c.enumerate-i-items.ensures.source (YieldsList-from_slice_split _ (λ b. eqb b 10) c.args.text.now c.split.ensures.rest c.split.ensures.done c.split.ensures.closure (λ x b q k. search (rules, tests)))) c.enumerate-i-items.ensures.count))
    c.loop-i.yielded _ c.loop-i.yielded_by _ _ c.in-None.is c.next.ensures.steps in
    (sofar_all c.loop-i.invariant (omega (arith, e.1, length-enumerate_from 0 (lines c.args.text.now))), c.loop-i.invariant.short)
