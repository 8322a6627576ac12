use Rattle.std.proofs.Common.{◌%◌}
use Rattle.bits.proofs.Bitwise.{bit_tested}
use Rattle.bits.proofs.bit_of.Goals as goal

pub returns : goal.returns
returns c = bit_tested c.args.word (c.args.place % 64)
