use Rattle.std.proofs.Common.{arith}
use Rattle.bits.proofs.Bitwise.{none_past, none_high, next_high}
use Rattle.bits.proofs.next_bit.Goals as goal

pub returns-then-from-ge64-clause-next : goal.returns-then-from-ge64-clause-next
returns-then-from-ge64-clause-next c = λ j l. none_past c.args.word c.args.from j (omega arith) c.if-from-ge64.true l

pub returns-then-rest-eq0-clause-next : goal.returns-then-rest-eq0-clause-next
returns-then-rest-eq0-clause-next c = λ j l. none_high c.args.word c.args.from j (omega arith) (omega arith) c.if-rest-eq0.true l

pub returns : goal.returns
returns c =
    let found = next_high c.args.word c.args.from (omega arith) (omega arith) c.if-rest-eq0.false in
    record { next = found.1; bound = found.0 }
