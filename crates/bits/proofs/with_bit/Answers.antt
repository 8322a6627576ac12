use Rattle.std.proofs.Common.{◌%◌, arith}
use Rattle.bits.proofs.Bitwise.{bit_set}
use Rattle.bits.proofs.with_bit.Goals as goal

pub returns : goal.returns
returns c = λ j. bit_set c.args.word (c.args.place % 64) j (omega arith)
