-- The orders of records, and what the first pair of neighbours out of order says of the whole list.
use Rattle.std.proofs.Common.{◌≡◌, ℕ, zero, suc, ◌+◌, ◌-◌, ◌<◌, ◌≤◌, min, Bool, true, false, not, List, length, get_or, drop, Some, None, Option, MatchOption, nat_lt, subst, ap, ◌∙◌, sym, refl, ⊎_elim, arith, length-drop}
use Rattle.std.specs.Cmp.{IsTotalOrder}
use Rattle.std.specs.declared.cmp.Ordering.{Ordering}
use Rattle.std.specs.Ordering.{is_lt, nat_cmp}
use Rattle.std.specs.List.{zip, position_or_len}
use Rattle.std.specs.Option.{option_map}
use Rattle.std.proofs.lemmas.Bool.{cases_eq, not-false, not-true}
use Rattle.std.proofs.lemmas.Grind.{common_steps}
use Rattle.std.proofs.lemmas.Bool.Decides.{nat_tests}
use Rattle.std.proofs.lemmas.List.{get_or-drop}
use Rattle.std.proofs.lemmas.List.Sums.{prefix_len_passes}
use Rattle.std.proofs.lemmas.List.Quantifiers.{position-Some}
use Rattle.std.proofs.lemmas.Slice.Zip.{length-zip, get_or-zip}
use Rattle.strict_order.specs.StrictOrder.{comes_before, Tied, StrictTotal, InOrder, Rises, FirstUnordered, first_break}

-- what comes first by a total order is a strict total order
pub strict_total : {X : Type 0} (cmp : X → X → Ordering) → IsTotalOrder cmp → StrictTotal (Tied cmp) (comes_before cmp)
strict_total cmp order =
    record {
      irreflexive = λ x. grind (arith, order.antisymm);
      transitive = λ x y z e f. grind (arith, order.trans);
      total = λ x y e f. grind (arith, order.antisymm);
    }

-- the order of numbers
pub nat_before : comes_before nat_cmp ≡ nat_lt
nat_before = λ i x y. same x y i
  where
    same : (x y : ℕ) → is_lt (nat_cmp x y) ≡ nat_lt x y
    same x y = grind (arith, nat_tests)

module _ {X : Type 0} (before : X → X → Bool) (transitive : (x y z : X) → before x y ≡ true → before y z ≡ true → before x z ≡ true) (xs : List X) where
  -- in a transitive order, neighbours in order put the whole list in order
  later_from_next : InOrder before xs (length xs) → (i j : ℕ) (d : X) → i < j → j < length xs → before (get_or xs i d) (get_or xs j d) ≡ true
  later_from_next next i zero d l m = absurd (omega arith)
  later_from_next next i (suc j) d l m =
      let same : suc j - 1 ≡ j = omega arith in
      let step : before (get_or xs j d) (get_or xs (suc j) d) ≡ true =
      subst (λ (k : ℕ). before (get_or xs k d) (get_or xs (suc j) d) ≡ true) same (next (suc j) d (omega arith) m) in
      ⊎_elim
      (λ e. rw e step)
      (λ ne. transitive _ _ _ (later_from_next next i j d (omega (arith, ne)) (omega arith)) step)
      (cases_eq i j)

  abbrev pairs : List (X × X)
  pairs = zip xs (drop 1 xs)

  abbrev breaks : X × X → Bool
  breaks p = not (before p.0 p.1)

  pairs_length : length pairs ≡ length xs - 1
  pairs_length = length-zip xs (drop 1 xs) ∙ ap (min (length xs)) (length-drop 1 xs) ∙ omega arith

  pair_at : (k : ℕ) (d : X) → k + 1 < length xs → get_or pairs k (d, d) ≡ (get_or xs k d, get_or xs (1 + k) d)
  pair_at k d l =
      get_or-zip xs (drop 1 xs) k (d, d) (omega arith) (simp length-drop (omega arith))
      ∙ ap (λ (y : X). (get_or xs k d, y)) (get_or-drop 1 xs k d)

  break_at : (k : ℕ) (d : X) → 1 ≤ k → k < length xs → breaks (get_or pairs (k - 1) (d, d)) ≡ not (before (get_or xs (k - 1) d) (get_or xs k d))
  break_at k d past l =
      let same : 1 + (k - 1) ≡ k = omega arith in
      ap breaks (pair_at (k - 1) d (omega arith)) ∙ ap (λ (m : ℕ). not (before (get_or xs (k - 1) d) (get_or xs m d))) same

  in_order : (n : ℕ) → n ≤ length xs → ((k : ℕ) (d : X) → k + 1 < n → breaks (get_or pairs k (d, d)) ≡ false) → InOrder before xs n
  in_order n within none k d past l = not-false _ (sym (break_at k d past (omega arith)) ∙ none (k - 1) d (omega arith))

  first_within : (k : ℕ) → first_break before xs ≡ Some k → k < length pairs
  first_within k e = grind (arith, common_steps)

  first_past : first_break before xs ≡ None → length pairs ≤ position_or_len breaks pairs
  first_past e = grind (arith, common_steps)

  found : (o : Option ℕ) → first_break before xs ≡ o → MatchOption (option_map (λ (k : ℕ). k + 1) o) (Rises before xs) (λ i. FirstUnordered before xs i)
  found None is =
      let none : (k : ℕ) (d : X) → k + 1 < length xs → breaks (get_or pairs k (d, d)) ≡ false =
      λ k d l. not-true _ (prefix_len_passes (λ p. not (breaks p)) pairs k (d, d) (omega (arith, first_past is, pairs_length))) in
      let next : InOrder before xs (length xs) = in_order (length xs) (omega arith) none in
      record { next = next; later = later_from_next next }
  found (Some k) is =
      let within : k + 1 < length xs = omega (arith, first_within k is, pairs_length) in
      let same : k + 1 - 1 ≡ k = omega arith in
      record {
        past = omega arith;
        within = within;
        fails = λ d. not-true _ (sym (break_at (k + 1) d (omega arith) within) ∙ ap (λ (m : ℕ). breaks (get_or pairs m (d, d))) same ∙ (position-Some breaks pairs k (d, d) is).1);
        earlier = in_order (k + 1) (omega arith) (λ m d l. (position-Some breaks pairs k (d, d) is).2 m (omega arith));
      }

  pub first_unordered_is : (r : Option ℕ) → r ≡ option_map (λ (k : ℕ). k + 1) (first_break before xs) → MatchOption r (Rises before xs) (λ i. FirstUnordered before xs i)
  first_unordered_is r e =
      subst (λ (o : Option ℕ). MatchOption o (Rises before xs) (λ i. FirstUnordered before xs i)) (sym e) (found (first_break before xs) refl)
