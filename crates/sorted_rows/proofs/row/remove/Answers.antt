use Rattle.std.proofs.Common.{◌≡◌, ℕ, ◌+◌, ◌-◌, List, get_or, ap₂, sym, ◌∙◌, arith, rules}
use Rattle.sorted_rows.specs.Row.{place}
use Rattle.sorted_rows.proofs.RowChange.{row_removed}
use Rattle.sorted_rows.proofs.row.remove.Goals as goal

pub returns-clause-removed : goal.returns-clause-removed
returns-clause-removed c able =
    let row : List ℕ = c.args.row.now in
    let n : ℕ = c.in-Some.field-0.now in
    let m : ℕ = c.from-n.result in
    let same : m ≡ n = c.from-n.ensures in
    let p : ℕ = c.position-k.result in
    let count : n ≡ get_or row 0 0 = search rules in
    rw same (row_removed row n (p + 1) (n + 1 - (p + 1)) p (n - p - 1) c.args.b c.rotate_left.new.self
    count (omega (arith, same)) (omega (arith, same)) (omega (arith, same)) (omega (arith, same))
    (c.position-k.ensures.first ∙ ap₂ (λ (xs : List ℕ) (k : ℕ). place xs k) c.loads.ensures c.from.ensures)
    (rw (sym same) c.rotate_left.ensures.after))
