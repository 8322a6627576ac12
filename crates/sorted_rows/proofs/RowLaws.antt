-- What holds of one row, and of the row with a load more or less.
use Rattle.std.proofs.Common.{◌≡◌, ℕ, zero, suc, ◌+◌, ◌-◌, ◌<◌, ◌≤◌, Bool, true, false, not, ◌&&◌, ◌||◌, eqb, List, [], ◌∷◌, length, ◌++◌, get_or, take, drop, replicate, sym, refl, ap, ◌∙◌, subst, ap₂, ⊎_elim, arith}
use Rattle.std.specs.List.{insert, remove}
use Rattle.std.proofs.lemmas.List.Edits.{length-insert, length-remove}
use Rattle.std.proofs.lemmas.List.{length-take-le, length-drop, length-append, take_at, take-append-drop, get_or-append_right, get_or-drop}
use Rattle.std.proofs.lemmas.Bool.{cases_lt, lt-ltb, le-ltb, ne_eqb, or_cases, or_from, and_parts, and_left, eqb-true, both_ways}
use Rattle.sorted_rows.specs.Row.{entries, has, place, Insertable, row_with, Removable, row_without, Able, changed, RowMade}
use Rattle.sorted_rows.specs.declared.row.Change.{Change}
use Rattle.sorted_rows.specs.declared.row.Change.TheVariants.{Insert, Remove}
use Rattle.sorted_rows.proofs.Rising.{Above, above_from_rises, rises_from_above, place_none, above_inserted, has_inserted, above_removed, has_removed}

pub place_le : (xs : List ℕ) (b : ℕ) → place xs b ≤ length xs
place_le [] b = omega arith
place_le (x ∷ xs) b =
    ⊎_elim
    (λ l. rw (lt-ltb x b l) (omega (arith, place_le xs b)))
    (λ l. rw (le-ltb x b l) (omega arith))
    (cases_lt x b)

pub place_lt : (m : ℕ) (xs : List ℕ) (b : ℕ) → Above m xs → has xs b ≡ true → place xs b < length xs
place_lt m xs b above on =
    ⊎_elim
    (λ l. l)
    (λ l. absurd (both_ways (has xs b) (place_none m xs b above l b (omega arith)) on))
    (cases_lt (place xs b) (length xs))

pub length_entries : (row : List ℕ) → get_or row 0 0 < length row → length (entries row) ≡ get_or row 0 0
length_entries row l = length-take-le (get_or row 0 0) (drop 1 row) (simp length-drop (omega arith))

all_zero : (xs : List ℕ) → ((j : ℕ) → j < length xs → get_or xs j 0 ≡ 0) → xs ≡ replicate (length xs) 0
all_zero [] zeros = refl
all_zero (x ∷ xs) zeros =
    ap₂ (λ (y : ℕ) (ys : List ℕ). y ∷ ys) (zeros 0 (omega arith)) (all_zero xs (λ j l. zeros (suc j) (omega arith)))

-- a row is its count, its loads and zeros
pub row_parts : (n d a : ℕ) (row : List ℕ) → RowMade n d a row → length row ≡ d + 1 → row ≡ get_or row 0 0 ∷ (entries row ++ replicate (d - get_or row 0 0) 0)
row_parts n d a [] made long = absurd (omega arith)
row_parts n d a (c ∷ t) made long =
    ap (λ (xs : List ℕ). c ∷ xs) (sym (take-append-drop c t) ∙ ap (λ (xs : List ℕ). take c t ++ xs) (all_zero (drop c t) zeros ∙ ap (λ (k : ℕ). replicate k 0) size))
  where
    size : length (drop c t) ≡ d - c
    size = omega (arith, length-drop c t)

    zeros : (j : ℕ) → j < length (drop c t) → get_or (drop c t) j 0 ≡ 0
    zeros j l = get_or-drop c t j 0 ∙ made.zeros (suc (c + j)) (omega arith) (omega (arith, size))

-- ---- its length with a load more or less

module _ (row : List ℕ) (b : ℕ) (able : Insertable row b) where
  length_loads_with : length (insert (entries row) (place (entries row) b) b) ≡ get_or row 0 0 + 1
  length_loads_with =
      length-insert (entries row) (place (entries row) b) b (place_le (entries row) b) ∙ ap (λ (k : ℕ). k + 1) (length_entries row (omega arith))

  length_with : length (row_with row b) ≡ length row
  length_with =
      omega (
        arith,
        length-append (insert (entries row) (place (entries row) b) b) (drop (get_or row 0 0 + 2) row),
        length_loads_with,
        length-drop (get_or row 0 0 + 2) row,
      )

module _ (row : List ℕ) (b : ℕ) (able : Removable row b) where
  length_loads_without : length (remove (entries row) (place (entries row) b)) ≡ get_or row 0 0 - 1
  length_loads_without =
      let count : length (entries row) ≡ get_or row 0 0 = length_entries row able.0 in
      omega (arith, length-remove (entries row) (place (entries row) b) (subst (λ (k : ℕ). place (entries row) b < k) (sym count) able.1), count)

  length_without : length (row_without row b) ≡ length row
  length_without =
      omega (
        arith,
        length-append (remove (entries row) (place (entries row) b)) (0 ∷ drop (get_or row 0 0 + 1) row),
        length_loads_without,
        length-drop (get_or row 0 0 + 1) row,
        able.0,
        able.1,
      )

pub length_changed : (change : Change) (row : List ℕ) (b : ℕ) → Able change row b → length (changed change row b) ≡ length row
length_changed Insert row b able = length_with row b able
length_changed Remove row b able = length_without row b able

-- ---- a load more or less

-- what a test is of b alone, once b was put in or taken out
abbrev pub put : Bool → Bool → Bool
put here t = t || here

abbrev pub cut : Bool → Bool → Bool
cut here t = t && not here

-- the row of load a after b was put in or taken out
pub record RowAfter (change : Bool → Bool → Bool) (n d a b : ℕ) (row after : List ℕ) : Type 0 where
  pub long : length after ≡ d + 1
  pub made : RowMade n d a after
  pub holds : (y : ℕ) → has (entries after) y ≡ change (eqb b y) (has (entries row) y)

module _ (n d a : ℕ) (row : List ℕ) (made : RowMade n d a row) (long : length row ≡ d + 1) (b : ℕ) where
  count_is : length (entries row) ≡ get_or row 0 0
  count_is = length_entries row (omega (arith, made.within))

  rising : Above 0 (entries row)
  rising = above_from_rises (entries row) made.rising

  module _ (room : get_or row 0 0 < d) where
    pub insertable : Insertable row b
    insertable = omega arith

    entries_with : entries (row_with row b) ≡ insert (entries row) (place (entries row) b) b
    entries_with = take_at (insert (entries row) (place (entries row) b) b) (drop (get_or row 0 0 + 2) row) (get_or row 0 0 + 1) (length_loads_with row b insertable)

    has_with : (y : ℕ) → has (entries (row_with row b)) y ≡ (has (entries row) y || eqb b y)
    has_with y = ap (λ (xs : List ℕ). has xs y) entries_with ∙ has_inserted (entries row) b y

    zeros_with : (k : ℕ) → get_or row 0 0 + 1 < k → k ≤ d → get_or (row_with row b) k 0 ≡ 0
    zeros_with zero l m = absurd (omega arith)
    zeros_with (suc k) l m =
        let same : get_or row 0 0 + 2 + (k - (get_or row 0 0 + 1)) ≡ suc k = omega arith in
        get_or-append_right (insert (entries row) (place (entries row) b) b) (drop (get_or row 0 0 + 2) row) (get_or row 0 0 + 1) k 0 (length_loads_with row b insertable) (omega arith)
        ∙ get_or-drop (get_or row 0 0 + 2) row (k - (get_or row 0 0 + 1)) 0
        ∙ ap (λ (i : ℕ). get_or row i 0) same
        ∙ made.zeros (suc k) (omega arith) m

    pub with_load : b < n → (a ≡ b → ⊥) → has (entries row) b ≡ false → RowAfter put n d a b row (row_with row b)
    with_load below apart off =
        record {
          long = length_with row b insertable ∙ long;
          made = record {
            within = omega arith;
            rising = rises_from_above 0 (entries (row_with row b)) (subst (Above 0) (sym entries_with) (above_inserted 0 (entries row) b rising (omega arith) off));
            below = λ y h. ⊎_elim (λ on. made.below y on) (λ e. subst (λ (z : ℕ). z < n) (eqb-true b y e) below) (or_cases (has (entries row) y) (eqb b y) (sym (has_with y) ∙ h));
            loopless = has_with a ∙ or_from _ _ made.loopless (ne_eqb b a (λ e. apart (sym e)));
            zeros = zeros_with;
          };
          holds = has_with;
        }

  module _ (on : has (entries row) b ≡ true) where
    pub removable : Removable row b
    removable = (
      omega (arith, made.within),
      subst (λ (k : ℕ). place (entries row) b < k) count_is (place_lt 0 (entries row) b rising on),
    )

    entries_without : entries (row_without row b) ≡ remove (entries row) (place (entries row) b)
    entries_without = take_at (remove (entries row) (place (entries row) b)) (0 ∷ drop (get_or row 0 0 + 1) row) (get_or row 0 0 - 1) (length_loads_without row b removable)

    has_without : (y : ℕ) → has (entries (row_without row b)) y ≡ (has (entries row) y && not (eqb b y))
    has_without y = ap (λ (xs : List ℕ). has xs y) entries_without ∙ has_removed 0 (entries row) b y rising on

    zeros_without : (k : ℕ) → get_or row 0 0 - 1 < k → k ≤ d → get_or (row_without row b) k 0 ≡ 0
    zeros_without zero l m = absurd (omega arith)
    zeros_without (suc k) l m =
        get_or-append_right (remove (entries row) (place (entries row) b)) (0 ∷ drop (get_or row 0 0 + 1) row) (get_or row 0 0 - 1) k 0 (length_loads_without row b removable) (omega arith)
        ∙ after (k - (get_or row 0 0 - 1)) (omega (arith, removable.1))
      where
        after : (j : ℕ) → j + get_or row 0 0 ≤ d → get_or (0 ∷ drop (get_or row 0 0 + 1) row) j 0 ≡ 0
        after zero h = refl
        after (suc j) h = get_or-drop (get_or row 0 0 + 1) row j 0 ∙ made.zeros (get_or row 0 0 + 1 + j) (omega arith) (omega arith)

    pub without_load : RowAfter cut n d a b row (row_without row b)
    without_load =
        record {
          long = length_without row b removable ∙ long;
          made = record {
            within = omega (arith, made.within);
            rising = rises_from_above 0 (entries (row_without row b)) (subst (Above 0) (sym entries_without) (above_removed 0 (entries row) b rising));
            below = λ y h. made.below y (and_parts (has (entries row) y) _ (sym (has_without y) ∙ h)).0;
            loopless = has_without a ∙ and_left _ _ made.loopless;
            zeros = zeros_without;
          };
          holds = has_without;
        }
