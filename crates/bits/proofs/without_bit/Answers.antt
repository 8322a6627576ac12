use Rattle.std.proofs.Common.{◌%◌, arith}
use Rattle.bits.proofs.Bitwise.{bit_cleared}
use Rattle.bits.proofs.without_bit.Goals as goal

pub returns : goal.returns
returns c = λ j. bit_cleared c.args.word (c.args.place % 64) j (omega arith) (omega arith)
