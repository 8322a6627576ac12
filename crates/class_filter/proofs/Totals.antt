-- A sum over a range, as a total.
use Rattle.std.proofs.Common.{◌≡◌, ℕ, zero, suc, ◌+◌, ◌*◌, ◌^◌, ◌<◌, ◌≤◌, List, [], ◌∷◌, fold, sum, Option, sym, ap, ◌∙◌, subst, add-zero, add-one, arith}
use Rattle.std.proofs.lemmas.Iterator.{YieldsList}
use Rattle.std.proofs.lemmas.Nat.{mul-le}
use Rattle.std.proofs.lemmas.List.Sums.{sum_by-cons}
use Rattle.std.specs.Fn.{Called}
use Rattle.std.specs.Iterator.{AlwaysYields, Yields}
use Rattle.std.specs.Iterator.Adapters.{map_source, map_callee, map_steps}
use Rattle.std.specs.Iterator.Runs.{EachRunFrom, YieldsRun}
use Rattle.std.specs.List.{range_with_len, sum_by}
use Rattle.std.specs.declared.iter.Map.{Map}
use denote.Param.Members.{Mut}
use Rattle.graph.specs.Graph.{total}

pub total_from_sum : (n : ℕ) (f : ℕ → ℕ) → sum_by f (range_with_len 0 n) ≡ total n f
total_from_sum n f = omega (arith, and_before 0 n n (omega arith))
  where
    and_before : (from n m : ℕ) → from + n ≡ m → sum_by f (range_with_len from n) + total from f ≡ total m f
    and_before from zero m e = omega (arith, ap (λ (k : ℕ). total k f) (sym (add-zero from) ∙ e))
    and_before from (suc n) m e =
        let more : total (from + 1) f ≡ total from f + f from = ap (λ (k : ℕ). total k f) (add-one from) in
        omega (arith, and_before (from + 1) n m (omega arith), sum_by-cons f from (range_with_len (from + 1) n))

range_sum : (from n m : ℕ) → from + n ≤ m → sum (range_with_len from n) ≤ n * m
range_sum from zero m l = omega arith
range_sum from (suc n) m l = omega (arith, range_sum (from + 1) n m (omega arith), sum_by-cons (λ x. x) from (range_with_len (from + 1) n))

-- ---- where each number gives at most itself

module _ {S F : Type 0} (steps : S → Option ℕ → S → Type 0) (g : Mut F (ℕ × Unit {0}) ℕ) (f : F) (few : (x r : ℕ) (q : F) → Called g f (x, tt) r q → (q ≡ f) × (r ≤ x)) where
  at_most : (xs : List ℕ) (n : ℕ) (s t : Map S F) (all : List ℕ) → map_callee s ≡ f → AlwaysYields steps (λ x. x) (map_source s) all → Yields (map_steps steps g) s xs t → fold (λ a x. a + x) n xs ≤ n + sum all
  at_most [] n s t all e road y = omega arith
  at_most (r ∷ xs) n s t [] e road (j, step, y) = absurd (road _ _ step.1)
  at_most (r ∷ xs) n s t (b ∷ bs) e road (j, (x, took, called), y) =
      let c = few x r (map_callee j) (subst (λ (h : F). Called g h (x, tt) r (map_callee j)) e called) in
      let next = road.1 x (map_source j) took in
      omega (arith, at_most xs (n + r) j t bs c.0 next.1 y, c.1, next.0, sum_by-cons (λ x. x) b bs)

  -- a sum over the first numbers fits where there are at most 256
  pub row_sums_fit : (n : ℕ) (s : Map S F) → map_callee s ≡ f → n ≤ 256 → YieldsList steps (λ x. x) (map_source s) (range_with_len 0 n) → EachRunFrom (map_steps steps g) s (λ p. fold (λ a x. a + x) 0 p.items < 2 ^ 64)
  unfolding YieldsRun
  row_sums_fit n s e small road = λ p _ at.
      let run = subst (λ (u : Map S F). Yields (map_steps steps g) u p.items p.gave.0.0) at p.gave.0.1 in
      let square : n * n ≤ 256 * 256 = mul-le n n 256 256 small small in
      omega (arith, at_most p.items 0 s p.gave.0.0 (range_with_len 0 n) e road.runs run, range_sum 0 n n (omega arith))
