-- Lists of words as sets of numbers.
use Rattle.std.proofs.Common.{◌≡◌, ℕ, suc, ◌+◌, ◌*◌, ◌/◌, ◌%◌, ◌<◌, ◌≤◌, false, List, [], ◌∷◌, length, get_or, sym, refl, ap, ◌∙◌, ap₂, ⊎_elim, arith}
use Rattle.std.specs.List.{sum_by}
use Rattle.std.proofs.lemmas.Bool.{cases_lt}
use Rattle.std.proofs.lemmas.List.{get_or_past}
use Rattle.std.proofs.lemmas.List.Sums.{sum_by-cons}
use Rattle.graph.specs.Graph.{First, count}
use Rattle.graph.proofs.Counts.{count_ext, count_add}
use Rattle.bits.specs.Bit.{bit}
use Rattle.bits.specs.Words.{member}
use Rattle.bits.proofs.Bitwise.{bit_zero}

-- bit j of word k
pub member_at : (words : List ℕ) (k j : ℕ) → j < 64 → member words (64 * k + j) ≡ bit (get_or words k 0) j
member_at words k j l =
    let word : (64 * k + j) / 64 ≡ k = omega arith in
    let place : (64 * k + j) % 64 ≡ j = omega arith in
    ap₂ (λ (x y : ℕ). bit (get_or words x 0) y) word place

pub member_past : (words : List ℕ) (b : ℕ) → 64 * length words ≤ b → member words b ≡ false
member_past words b h = ap (λ (w : ℕ). bit w (b % 64)) (get_or_past words (b / 64) 0 (omega arith)) ∙ bit_zero (b % 64)

-- ---- how many there are

pub members_counted : (words : List ℕ) → sum_by (λ w. count 64 (bit w)) words ≡ count (64 * length words) (member words)
members_counted [] = refl
members_counted (w ∷ words) =
    let more : 64 + 64 * length words ≡ 64 * length (w ∷ words) = omega arith in
    sum_by-cons (λ w. count 64 (bit w)) w words
    ∙ ap₂ (λ (x y : ℕ). x + y)
    (count_ext 64 (bit w) (member (w ∷ words)) (λ j l. member_first j l))
    (members_counted words ∙ count_ext (64 * length words) (member words) (λ j. member (w ∷ words) (64 + j)) (λ j _. member_rest j))
    ∙ sym (count_add 64 (64 * length words) (member (w ∷ words)))
    ∙ ap (λ (n : ℕ). count n (member (w ∷ words))) more
  where
    member_first : (j : ℕ) → j < 64 → bit w j ≡ member (w ∷ words) j
    member_first j l = let same : 64 * 0 + j ≡ j = omega arith in sym (member_at (w ∷ words) 0 j l) ∙ ap (member (w ∷ words)) same

    member_rest : (j : ℕ) → member words j ≡ member (w ∷ words) (64 + j)
    member_rest j =
        let word : (64 + j) / 64 ≡ suc (j / 64) = omega arith in
        let place : (64 + j) % 64 ≡ j % 64 = omega arith in
        sym (ap₂ (λ (x y : ℕ). bit (get_or (w ∷ words) x 0) y) word place)

-- ---- the next one

-- none from `from` on and below `end`
abbrev pub NoneIn : List ℕ → ℕ → ℕ → Type 0
NoneIn words from end = (b : ℕ) → from ≤ b → b < end → member words b ≡ false

pub none_all : (words : List ℕ) (from end : ℕ) → 64 * length words ≤ end → NoneIn words from end → (b : ℕ) → from ≤ b → member words b ≡ false
none_all words from end m none b h = ⊎_elim (λ l. none b h l) (λ l. member_past words b (omega arith)) (cases_lt b end)

-- a word that is 0 has none
pub none_more : (words : List ℕ) (from k : ℕ) → get_or words k 0 ≡ 0 → NoneIn words from (64 * k) → NoneIn words from (64 * (k + 1))
none_more words from k empty none b h l =
    ⊎_elim
    (λ m. none b h m)
    (λ m. let word : b / 64 ≡ k = omega arith in
    ap (λ (x : ℕ). bit (get_or words x 0) (b % 64)) word ∙ ap (λ (x : ℕ). bit x (b % 64)) empty ∙ bit_zero (b % 64))
    (cases_lt b (64 * k))

-- the first of word k is the next one, where the words before it have none
pub first_later : (words : List ℕ) (from k j : ℕ) → from ≤ 64 * k → NoneIn words from (64 * k) → (j < 64) × First (bit (get_or words k 0)) 0 j → First (member words) from (64 * k + j)
first_later words from k j start none found =
    record {
      past = omega arith;
      hit = member_at words k j found.0 ∙ found.1.hit;
      before = λ b h l.
          ⊎_elim
          (λ m. none b h m)
          (λ m. let word : b / 64 ≡ k = omega arith in
          let place : b % 64 < j = omega arith in
          ap (λ (x : ℕ). bit (get_or words x 0) (b % 64)) word ∙ found.1.before (b % 64) (omega arith) place)
          (cases_lt b (64 * k));
    }
