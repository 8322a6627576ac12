-- The links of a load removed one by one.
use Rattle.std.proofs.Common.{◌≡◌, ℕ, zero, suc, ◌+◌, ◌<◌, ◌≤◌, false, sym, refl, ap, ◌∙◌, inl, inr, add-one, arith}
use Rattle.std.proofs.lemmas.Bool.{cases_Bool, cases_lt, cond-true, cond-false}
use Rattle.std.proofs.lemmas.Bool.Decides.{nat_tests}
use Rattle.graph.specs.Graph.{Graph, Simple, First, removed}
use Rattle.graph.proofs.Changes.{removed_simple}
use Rattle.links.specs.Books.{Ledger, raised}
use Rattle.graph.specs.Isolated.{isolated}
use Rattle.rules.specs.Calls.{released}
use Rattle.rules.proofs.OneByOne.{one_by_one}
use Rattle.rules.specs.OneByOne.{stripped, stripped_ledger}

module _ (g : Graph) (a : ℕ) where
  pub stripped_simple : Simple g → (k : ℕ) → Simple (stripped g a k)
  stripped_simple simple zero = simple
  stripped_simple simple (suc k) = elim (cases_Bool (g.linked a k))
      [ inl on ↦ rw on (removed_simple (stripped g a k) a k (stripped_simple simple k)) | inr off ↦ rw off (stripped_simple simple k) ]

  -- the links with the loads at or above k still stand
  still_linked : (k j : ℕ) → k ≤ j → (stripped g a k).linked a j ≡ g.linked a j
  still_linked zero j h = refl
  still_linked (suc k) j h =
      let ih = still_linked k j (omega arith) in
      elim (cases_Bool (g.linked a k)) [ inl on ↦ rw on (grind (arith, nat_tests)) | inr off ↦ rw off ih ]

  skipped : (n m : ℕ) → n ≤ m → ((j : ℕ) → n ≤ j → j < m → g.linked a j ≡ false) → (l : Ledger) →
      (stripped g a m ≡ stripped g a n) × (stripped_ledger g l a m ≡ stripped_ledger g l a n)
  skipped n zero h none l = let e : 0 ≡ n = omega arith in (ap (stripped g a) e, ap (stripped_ledger g l a) e)
  skipped n (suc m) h none l = let again = skipped n m in elim (cases_lt m n) [
    | inl k ↦ let e : suc m ≡ n = omega arith in (ap (stripped g a) e, ap (stripped_ledger g l a) e)
    | inr k ↦
        let off = none m k (omega arith) in
        let before = again k (λ j p q. none j p (omega arith)) l in
        (cond-false (g.linked a m) _ _ off ∙ before.0, cond-false (g.linked a m) _ _ off ∙ before.1)
  ]

  -- the next link is removed
  pub strip_more : (from b : ℕ) → First ((stripped g a from).linked a) from b → (l : Ledger) →
      (removed (stripped g a from) a b ≡ stripped g a (b + 1)) × (raised (stripped_ledger g l a from) a b ≡ stripped_ledger g l a (b + 1))
  strip_more from b next l =
      let on = sym (still_linked from b next.past) ∙ next.hit in
      let same = skipped from b next.past (λ j p q. sym (still_linked from j p) ∙ next.before j p q) l in (
        sym (ap (stripped g a) (add-one b) ∙ cond-true (g.linked a b) _ _ on ∙ ap (λ (h : Graph). removed h a b) same.0),
        sym (ap (stripped_ledger g l a) (add-one b) ∙ cond-true (g.linked a b) _ _ on ∙ ap (λ (k : Ledger). raised k a b) same.1),
      )

  -- no link is left
  pub strip_all : Simple g → (from : ℕ) → from ≤ g.size → ((j : ℕ) → from ≤ j → (stripped g a from).linked a j ≡ false) → (l : Ledger) →
      (stripped g a from ≡ isolated g a) × (stripped_ledger g l a from ≡ released g l a)
  strip_all simple from low none l =
      let same = skipped from g.size low (λ j p _. sym (still_linked from j p) ∙ none j p) l in
      let all = one_by_one g simple l a in
      (sym same.0 ∙ all.graph, sym same.1 ∙ all.ledger)
