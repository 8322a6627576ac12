use Rattle.std.proofs.Common.{arith}
use Rattle.bits.proofs.Bitwise.{ones_count}
use Rattle.bits.proofs.count_bits.Goals as goal

pub returns-clause-value : goal.returns-clause-value
returns-clause-value c = ones_count 64 c.args.word (omega arith)
