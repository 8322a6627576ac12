use Rattle.std.proofs.Common.{◌≡◌, ℕ, List, ap, ◌∙◌, rules}
use Rattle.bits.specs.Bit.{bit}
use Rattle.bits.specs.Words.{member}
use Rattle.bit_matrix.proofs.Cells.{row_linked}
use Rattle.bit_matrix.proofs.BitMatrixLinks.linked.Goals as goal

pub returns : goal.returns
unfolding bit
returns c made =
    let found : c.is_some_and.result ≡ member c.row.result.now c.args.b = search rules in
    found
    ∙ ap (λ (row : List ℕ). member row c.args.b) c.row.ensures.value
    ∙ row_linked c.args.self.now made c.args.a c.args.b
