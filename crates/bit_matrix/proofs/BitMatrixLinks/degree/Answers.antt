use Rattle.std.proofs.Common.{◌≡◌, ℕ, ◌*◌, List, length, ap, ◌∙◌, rules}
use Rattle.std.specs.List.{sum_by}
use Rattle.graph.specs.Graph.{count}
use Rattle.bits.specs.Bit.{bit}
use Rattle.bits.specs.Words.{member}
use Rattle.bits.proofs.Words.{members_counted}
use Rattle.bit_matrix.proofs.Cells.{row_degree}
use Rattle.bit_matrix.proofs.BitMatrixLinks.degree.Goals as goal

pub returns : goal.returns
returns c made =
    let sum : c.sum.result ≡ sum_by (λ (w : ℕ). count 64 (bit w)) c.row.result.now = search rules in
    sum
    ∙ members_counted c.row.result.now
    ∙ ap (λ (row : List ℕ). count (64 * length row) (member row)) c.row.ensures.value
    ∙ row_degree c.args.self.now made c.args.a
