use Rattle.std.proofs.Common.{ℕ, ◌<◌, ◌≤◌, sym, refl, ◌∙◌, arith, rules}
use borrow.Author.Tests.{tests}
use Rattle.std.proofs.lemmas.Bool.Decides.{nat_tests}
use Rattle.std.proofs.lemmas.Iterator.{YieldsList-from_slice, IsFirst-from_position, index_from_first}
use Rattle.sorted_rows.specs.Row.{place}
use Rattle.sorted_rows.proofs.row.position.Goals as goal

pub returns-clause-first : goal.returns-clause-first
returns-clause-first c =
    let b : ℕ = c.args.b in
    c.unwrap_or.ensures
    ∙ sym (index_from_first (λ xs. place xs b) (λ x. b ≤ x) (λ x. x < b) refl (λ x xs l. grind (arith, nat_tests)) (λ x xs l. grind (arith, nat_tests))
    c.args.loads.now _
    (IsFirst-from_position _ _ _ (λ x. b ≤ x) (λ x. x < b) c.position.ensures.ran (YieldsList-from_slice c.args.loads.now cc) (λ x q k. search (rules, tests)) (λ x q k. search (rules, tests))))
