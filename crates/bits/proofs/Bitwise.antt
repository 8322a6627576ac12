-- The bits of what the operations on words give.
use Rattle.std.proofs.Common.{◌≡◌, ℕ, zero, suc, ◌+◌, ◌-◌, ◌*◌, ◌/◌, ◌%◌, ◌^◌, ◌<◌, ◌≤◌, min, Bool, false, cond, not, ◌&&◌, ◌||◌, eqb, w64, sym, refl, ap, ◌∙◌, ap₂, ⊎_elim, ◌⊎◌, inl, inr, mod-lt, add_comm, pow-suc, arith}
use lib.Bits.{bit_and, bit_or}
use lib.Count.{count_trailing_zeros, ones, ones_in, ones_cat}
use Rattle.std.specs.Int.{bit_at}
use Rattle.std.proofs.lemmas.Nat.{and_le_l, pow_pos, shr_split, div_below}
use Rattle.std.proofs.lemmas.Nat.Bits.{shr_and_one, bit_at-lt, bit_at-zero, bit_at_above, bit_at_and, bit_at_cat_low, bit_at_set_same, bit_at_set_other, bit_at_clear_same, bit_at_clear_other, bit_at_mask_inside, bit_at_mask_below, bit_at-trailing_zeros, ones_shl, same_from_bits_below}
use Rattle.std.proofs.lemmas.Bool.{cases_eq, cases_lt}
use Rattle.std.proofs.lemmas.Bool.Decides.{nat_tests}
use Rattle.graph.specs.Graph.{First, count}
use Rattle.graph.proofs.Counts.{count_ext}
use Rattle.bits.specs.Bit.{bit}

abbrev is_one : ℕ → Bool
is_one x = eqb x 1

pub bit_tested : (w k : ℕ) → eqb (bit_and (w / 2 ^ k) 1) 1 ≡ bit w k
unfolding bit
bit_tested w k = ap is_one (shr_and_one w k)

pub bit_zero : (j : ℕ) → bit 0 j ≡ false
unfolding bit
bit_zero j = ap is_one (bit_at-zero j)

-- past its 64 bits a word has none
and_above : (w mask j : ℕ) → w < 2 ^ 64 → 64 ≤ j → bit_at (bit_and w mask) j ≡ bit_at w j
and_above w mask j fits past =
    bit_at_above (bit_and w mask) 64 j (omega (arith, and_le_l w mask)) past ∙ sym (bit_at_above w 64 j fits past)

-- ---- one bit set, one bit cleared

pub bit_set : (w k j : ℕ) → k < 64 → bit (bit_or w ((1 * 2 ^ k) % 2 ^ 64)) j ≡ (bit w j || eqb k j)
unfolding bit
bit_set w k j l =
    ⊎_elim
    (λ e. let on : bit_at (bit_or w ((1 * 2 ^ k) % 2 ^ 64)) j ≡ 1 = rw (← e) (bit_at_set_same w64 w k l) in grind (arith, nat_tests))
    (λ ne. ap is_one (bit_at_set_other w64 w k l j (λ e. ne (sym e))) ∙ grind (arith, nat_tests))
    (cases_eq k j)

pub bit_cleared : (w k j : ℕ) → w < 2 ^ 64 → k < 64 → bit (bit_and w ((2 ^ 64 - 1) - (1 * 2 ^ k) % 2 ^ 64)) j ≡ (bit w j && not (eqb k j))
unfolding bit
bit_cleared w k j fits l =
    ⊎_elim
    (λ e. let off : bit_at (bit_and w ((2 ^ 64 - 1) - (1 * 2 ^ k) % 2 ^ 64)) j ≡ 0 = rw (← e) (bit_at_clear_same w64 w k l) in grind (arith, nat_tests))
    (λ ne. ap is_one (other ne (cases_lt j 64)) ∙ grind (arith, nat_tests))
    (cases_eq k j)
  where
    other : (k ≡ j → ⊥) → (j < 64) ⊎ (64 ≤ j) → bit_at (bit_and w ((2 ^ 64 - 1) - (1 * 2 ^ k) % 2 ^ 64)) j ≡ bit_at w j
    other ne (inl m) = bit_at_clear_other w64 w k l j m (λ e. ne (sym e))
    other ne (inr m) = and_above w ((2 ^ 64 - 1) - (1 * 2 ^ k) % 2 ^ 64) j fits m

-- ---- the lowest bit from a place on

-- the word with the bits below `from` cleared
abbrev pub high : ℕ → ℕ → ℕ
high w from = bit_and w (((2 ^ 64 - 1) * 2 ^ from) % 2 ^ 64)

high_at : (w from j : ℕ) → w < 2 ^ 64 → from ≤ 64 → from ≤ j → bit_at (high w from) j ≡ bit_at w j
high_at w from j fits small past =
    ⊎_elim
    (λ l.
    let one : bit_at (((2 ^ 64 - 1) * 2 ^ from) % 2 ^ 64) j ≡ 1 =
    ap (λ (x : ℕ). bit_at x j) (ones_shl 64 from small) ∙ bit_at_mask_inside from 64 j past l in
    bit_at_and w (((2 ^ 64 - 1) * 2 ^ from) % 2 ^ 64) j ∙ ap (min (bit_at w j)) one ∙ omega (arith, bit_at-lt w j))
    (λ l. and_above w (((2 ^ 64 - 1) * 2 ^ from) % 2 ^ 64) j fits l)
    (cases_lt j 64)

high_below : (w from j : ℕ) → from ≤ 64 → j < from → bit_at (high w from) j ≡ 0
high_below w from j small l =
    let none : bit_at (((2 ^ 64 - 1) * 2 ^ from) % 2 ^ 64) j ≡ 0 =
    ap (λ (x : ℕ). bit_at x j) (ones_shl 64 from small) ∙ bit_at_mask_below from 64 j l in
    bit_at_and w (((2 ^ 64 - 1) * 2 ^ from) % 2 ^ 64) j ∙ ap (min (bit_at w j)) none ∙ omega arith

pub none_high : (w from j : ℕ) → w < 2 ^ 64 → from ≤ 64 → high w from ≡ 0 → from ≤ j → bit w j ≡ false
unfolding bit
none_high w from j fits small none l =
    ap is_one (sym (high_at w from j fits small l) ∙ ap (λ (x : ℕ). bit_at x j) none ∙ bit_at-zero j)

pub none_past : (w from j : ℕ) → w < 2 ^ 64 → 64 ≤ from → from ≤ j → bit w j ≡ false
unfolding bit
none_past w from j fits past l = ap is_one (bit_at_above w 64 j fits (omega arith))

pub next_high : (w from : ℕ) → w < 2 ^ 64 → from ≤ 64 → (high w from ≡ 0 → ⊥) → (count_trailing_zeros 64 (high w from) < 64) × First (bit w) from (count_trailing_zeros 64 (high w from))
unfolding bit
next_high w from fits small some =
    let t : ℕ = count_trailing_zeros 64 (high w from) in
    let below : high w from < 2 ^ 64 = omega (arith, and_le_l w (((2 ^ 64 - 1) * 2 ^ from) % 2 ^ 64)) in
    let found : (t < 64) × (bit_at (high w from) t ≡ 1) × ((i : ℕ) → i < t → bit_at (high w from) i ≡ 0) =
    bit_at-trailing_zeros w64 (high w from) (omega (arith, some)) below in
    let past : from ≤ t = ⊎_elim (λ l. absurd (omega (arith, found.1, high_below w from t small l))) (λ l. l) (cases_lt t from) in (
      found.0,
      record {
        past = past;
        hit = ap is_one (sym (high_at w from t fits small past) ∙ found.1);
        before = λ j l m. ap is_one (sym (high_at w from j fits small l) ∙ found.2 j m);
      },
    )

-- of a word that is not 0, unmasked
pub next_any : (w : ℕ) → w < 2 ^ 64 → (w ≡ 0 → ⊥) → (count_trailing_zeros 64 w < 64) × First (bit w) 0 (count_trailing_zeros 64 w)
unfolding bit
next_any w fits some =
    let found : (count_trailing_zeros 64 w < 64) × (bit_at w (count_trailing_zeros 64 w) ≡ 1) × ((i : ℕ) → i < count_trailing_zeros 64 w → bit_at w i ≡ 0) =
    bit_at-trailing_zeros w64 w (omega (arith, some)) fits in (
      found.0,
      record {
        past = omega arith;
        hit = ap is_one found.1;
        before = λ j _ m. ap is_one (found.2 j m);
      },
    )

-- ---- how many bits

digit_ones : (a : ℕ) → a < 2 → ones a ≡ cond (eqb (a % 2) 1) 1 0
unfolding ones ones_in
digit_ones zero l = refl
digit_ones (suc zero) l = refl
digit_ones (suc (suc a)) l = absurd (omega arith)

pub ones_count : (k w : ℕ) → w < 2 ^ k → ones w ≡ count k (bit w)
unfolding bit ones ones_in
ones_count zero w fits = let none : w ≡ 0 = omega arith in ap ones none
ones_count (suc k) w fits =
    let low : w % 2 ^ k < 2 ^ k = mod-lt w (pow_pos k) in
    let top : w / 2 ^ k < 2 = div_below w (2 ^ k) 2 (pow_pos k) (omega (arith, pow-suc 2 k)) in
    ap ones (sym (shr_split w k))
    ∙ ones_cat k (w / 2 ^ k) (w % 2 ^ k) low
    ∙ ap₂ (λ (x y : ℕ). x + y) (digit_ones (w / 2 ^ k) top) (ones_count k (w % 2 ^ k) low ∙ count_ext k (bit (w % 2 ^ k)) (bit w) (λ j l. ap is_one (sym (bit_at_cat_low (w / 2 ^ k) k (w % 2 ^ k) j l) ∙ ap (λ (x : ℕ). bit_at x j) (shr_split w k))))
    ∙ add_comm (cond (eqb (w / 2 ^ k % 2) 1) 1 0) (count k (bit w))

-- ---- a word by its bits

pub same_word : (v w : ℕ) → v < 2 ^ 64 → w < 2 ^ 64 → ((j : ℕ) → j < 64 → bit v j ≡ bit w j) → v ≡ w
unfolding bit
same_word v w fits-v fits-w same =
    same_from_bits_below 64 v w fits-v fits-w (λ j l. same_digit (bit_at v j) (bit_at w j) (bit_at-lt v j) (bit_at-lt w j) (same j l))
  where
    same_digit : (x y : ℕ) → x < 2 → y < 2 → eqb x 1 ≡ eqb y 1 → x ≡ y
    same_digit x y l m e = grind (arith, nat_tests)
