use Rattle.std.proofs.Common.{ℕ, ltb, Bool, List, subst, MatchOption}
use Rattle.strict_order.specs.StrictOrder.{Rises, FirstUnordered}
use Rattle.strict_order.proofs.Order.{nat_before}
use Rattle.sorted_rows.proofs.MadeRows.{no_break}
use Rattle.sorted_rows.proofs.SortedRows.row_break.Goals as goal

pub returns : goal.returns
returns c =
    let found : MatchOption c.first_unordered.result (Rises ltb c.row.result.now) (λ i. FirstUnordered ltb c.row.result.now i) =
    subst (λ (before : ℕ → ℕ → Bool). MatchOption c.first_unordered.result (Rises before c.row.result.now) (λ i. FirstUnordered before c.row.result.now i))
    nat_before c.first_unordered.ensures.first in
    record {
      first = subst (λ (xs : List ℕ). MatchOption c.first_unordered.result (Rises ltb xs) (λ i. FirstUnordered ltb xs i)) c.row.ensures found;
      none = λ made. no_break _ _ _ _ _ made c.args.a c.first_unordered.result
          (subst (λ (xs : List ℕ). MatchOption c.first_unordered.result (Rises ltb xs) (λ i. FirstUnordered ltb xs i)) c.row.ensures found);
    }
