use Rattle.std.proofs.Common.{◌≡◌, ℕ, ◌+◌, ◌-◌, ◌≤◌, List, ◌++◌, length, get_or, take, drop, ap, ap₂, ◌∙◌, arith, rules}
use Rattle.std.proofs.lemmas.List.{length-take-le, length-drop}
use Rattle.sorted_rows.specs.Row.{place}
use Rattle.sorted_rows.proofs.RowChange.{row_inserted}
use Rattle.sorted_rows.proofs.row.insert.Goals as goal

pub returns-clause-inserted : goal.returns-clause-inserted
returns-clause-inserted c room =
    let row : List ℕ = c.args.row.now in
    let n : ℕ = c.in-Some.field-0.now in
    let m : ℕ = c.from-n.result in
    let same : m ≡ n = c.from-n.ensures in
    let p : ℕ = c.position-k.result in
    let count : n ≡ get_or row 0 0 = search rules in
    let low : p ≤ n = omega (arith, same, count, c.position-k.ensures.within, ap length c.loads.ensures, length-take-le (get_or row 0 0) (drop 1 row) (simp length-drop (omega (arith, same, count)))) in
    let part : List ℕ = take (m + 1 + 1 - (p + 1)) (drop (p + 1) row) in
    let long : length part - 1 ≡ n - p =
    simp (length-take-le (m + 1 + 1 - (p + 1)) (drop (p + 1) row) (simp length-drop (omega (arith, same)))) (omega (arith, same)) in
    row_inserted row n (p + 1) (m + 1 + 1 - (p + 1)) p (n - p) c.args.b c.rotate_right.new.self
    count (omega (arith, same)) (omega (arith, same)) (omega (arith, same)) (omega (arith, same))
    (c.position-k.ensures.first ∙ ap₂ (λ (xs : List ℕ) (k : ℕ). place xs k) c.loads.ensures c.from.ensures)
    (c.rotate_right.ensures.after ∙ ap (λ (m : ℕ). drop m part ++ take m part) long)
