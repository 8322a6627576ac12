use Rattle.std.proofs.Common.{◌*◌}
use Rattle.bits.proofs.Words.{NoneIn}
use Rattle.bits.proofs.next_member.Given as goal

abbrev pub invariant-loop-k : goal.invariant-loop-k
invariant-loop-k l = NoneIn l.words l.from (64 * l.k)
