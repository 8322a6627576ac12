use Rattle.std.proofs.Common.{◌≡◌, ℕ, ◌+◌, ◌-◌, ◌*◌, length, take, refl, ◌∙◌, arith}
use Rattle.std.proofs.lemmas.List.{length-take-le}
use Rattle.sorted_rows.proofs.MadeRows.{empty_made, empty_fresh, cleared, checked, making_granted, making_refused}
use Rattle.sorted_rows.proofs.SortedRows.new.Goals as goal

pub returns-in-Ok : goal.returns-in-Ok
returns-in-Ok c =
    let n : ℕ = c.args.size in
    let d : ℕ = c.args.row_limit in
    let granted = c.in-Ok.ensures.0 in
    let fits = checked n d c.args.limit (length c.args.rows.now) granted in
    let part : length (take (n * (d + 1) - 0) c.args.rows.now) ≡ n * (d + 1) - 0 =
    length-take-le (n * (d + 1) - 0) c.args.rows.now (omega (arith, fits.2)) in
    let zeros = cleared (n * (d + 1)) c.args.rows.now c.fill.new.self _ (n * (d + 1) - 0) fits.2
    (part ∙ omega arith) (omega arith) (c.fill.ensures.after (λ y e. e)) in
    record {
      made = empty_made n d _ zeros.zeros c.args.limit c.new.result c.new.ensures fits.0 fits.1 (omega (arith, zeros.same_length, fits.2));
      making = making_granted _ n d c.args.limit c.args.rows.now _ granted (empty_fresh n d _ zeros.zeros c.args.limit _ refl refl c.new.ensures refl) zeros;
      lender = refl;
    }

pub returns-in-Err : goal.returns-in-Err
returns-in-Err c =
    record {
      made = empty_made 0 0 c.args.rows.now (λ k l. absurd (omega arith)) 0 c.new-in-Err.result c.new-in-Err.ensures (omega arith) (omega arith) (omega arith);
      making = making_refused _ _ c.args.size c.args.row_limit c.args.limit c.args.rows.now _ c.in-Err.ensures
          (empty_fresh 0 0 c.args.rows.now (λ k l. absurd (omega arith)) 0 _ refl refl c.new-in-Err.ensures refl) refl;
      lender = refl;
    }
