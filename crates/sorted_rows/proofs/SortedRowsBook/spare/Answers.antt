use Rattle.std.proofs.Common.{ℕ, ◌-◌, ◌<◌, length, sym, ap, ◌∙◌, ap₂, arith}
use Rattle.std.proofs.lemmas.Bool.{lt-ltb, cond-true}
use Rattle.sorted_rows.proofs.MadeRows.{length_loads}
use Rattle.sorted_rows.proofs.SortedRowsBook.spare.Goals as goal

pub returns : goal.returns
returns c made =
    let l : c.args.a < c.args.self.now.size = omega arith in
    c.saturating_sub.ensures
    ∙ ap₂ (λ (d k : ℕ). d - k) c.from-2.ensures (ap length c.row.ensures ∙ length_loads _ _ _ _ _ made c.args.a l)
    ∙ sym (cond-true _ _ _ (lt-ltb _ _ l))
