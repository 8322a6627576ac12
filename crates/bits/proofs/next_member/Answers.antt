use Rattle.std.proofs.Common.{◌*◌, ⊎_elim, arith}
use Rattle.std.proofs.lemmas.Bool.{cases_lt}
use Rattle.bits.proofs.Bitwise.{next_any}
use Rattle.bits.proofs.Words.{none_all, none_more, first_later, member_past}
use Rattle.bits.proofs.next_member.Goals as goal

pub returns-then-first-words-clause-named : goal.returns-then-first-words-clause-named
returns-then-first-words-clause-named c = λ b h _. member_past c.args.words.now b (omega (arith, c.if-first-words.true, h))

pub returns-then-first-words-clause-next : goal.returns-then-first-words-clause-next
returns-then-first-words-clause-next c = λ _ b h. member_past c.args.words.now b (omega (arith, c.if-first-words.true, h))

pub returns-then-word-ne0-clause-named : goal.returns-then-word-ne0-clause-named
returns-then-word-ne0-clause-named c =
    first_later c.args.words.now c.args.from c.loop-k.k _ (omega arith) c.loop-k.invariant (next_any _ (omega arith) c.if-word-ne0.true)

pub returns-then-word-ne0-clause-next : goal.returns-then-word-ne0-clause-next
returns-then-word-ne0-clause-next c =
    λ _. first_later c.args.words.now c.args.from c.loop-k.k _ (omega arith) c.loop-k.invariant (next_any _ (omega arith) c.if-word-ne0.true)

pub loop-k-preserved : goal.loop-k-preserved
loop-k-preserved c = none_more c.args.words.now c.args.from c.loop-k.k c.if-word-ne0.false c.loop-k.invariant

pub returns-clause-named : goal.returns-clause-named
returns-clause-named c = λ b h l.
    ⊎_elim (λ m. c.loop-k.invariant b h m) (λ past. member_past c.args.words.now b (omega arith)) (cases_lt b (64 * c.loop-k.k))

pub returns-clause-next : goal.returns-clause-next
returns-clause-next c = λ short. none_all c.args.words.now c.args.from (64 * c.loop-k.k) (omega (arith, short)) c.loop-k.invariant
