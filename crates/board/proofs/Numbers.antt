-- The list of the numbers below another.
use Rattle.std.proofs.Common.{◌≡◌, ℕ, zero, suc, ◌<◌, ◌≤◌, List, [], ◌∷◌, ◌++◌, map, length, get_or, take, sym, refl, ap, ◌∙◌, append_assoc, append-nil, add-one, arith}
use Rattle.std.specs.List.{range_with_len}
use Rattle.std.proofs.lemmas.List.FromFn.{map-range_with_len_more, take-map-range_with_len, fill_by_all}
use Rattle.rules.specs.Calls.{up_to}

up_to_is : (n : ℕ) (rest : List ℕ) → map (λ x. x) (range_with_len 0 n) ++ rest ≡ up_to n rest
up_to_is zero rest = refl
up_to_is (suc n) rest =
    ap (λ (l : List ℕ). l ++ rest) (ap (λ (k : ℕ). map (λ x. x) (range_with_len 0 k)) (sym (add-one n)) ∙ map-range_with_len_more (λ x. x) 0 n n (omega arith))
    ∙ append_assoc (map (λ x. x) (range_with_len 0 n)) (n ∷ []) rest ∙ up_to_is n (n ∷ rest)

-- the first n of a list in which each number stands at its own place
pub numbers_below : (m n : ℕ) (xs : List ℕ) → length xs ≡ m → n ≤ m → ((k : ℕ) → k < m → get_or xs k 0 ≡ k) → take n xs ≡ up_to n []
numbers_below m n xs long low own =
    ap (take n) (fill_by_all (λ x. x) xs m 0 long own) ∙ take-map-range_with_len (λ x. x) 0 m n low
    ∙ sym (append-nil (map (λ x. x) (range_with_len 0 n))) ∙ up_to_is n []
