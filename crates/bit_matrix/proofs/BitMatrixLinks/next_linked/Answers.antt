use Rattle.std.proofs.Common.{arith}
use Rattle.bit_matrix.proofs.Cells.{row_next}
use Rattle.bit_matrix.proofs.BitMatrixLinks.next_linked.Goals as goal

pub returns : goal.returns
returns c = λ made.
    row_next c.args.self.now made c.args.a c.row.result.now c.row.ensures.value c.args.from c.next_member.result
    (c.next_member.ensures.next (omega (arith, c.row.ensures.bound)))
