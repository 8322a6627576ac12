-- Memory in rows of d + 1 numbers, and what a change of one row leaves.
use Rattle.std.proofs.Common.{◌≡◌, ℕ, ◌+◌, ◌-◌, ◌*◌, ◌<◌, ◌≤◌, min, List, ◌++◌, length, get_or, take, drop, sym, refl, ap, ◌∙◌, subst, ap₂, ⊎_elim, arith}
use borrow.Rule.Slice.PartMut.{put_mid}
use Rattle.std.proofs.lemmas.Nat.{mul-add-lt}
use Rattle.std.proofs.lemmas.List.{length-take, length-take-le, take-append-drop, length-drop, length-append, get_or-take, get_or-drop, get_or_append_left, get_or-append_right, drop-drop, drop_at, take_at, same_lists}
use Rattle.std.proofs.lemmas.Bool.{cases_order}
use Rattle.sorted_rows.specs.RowMemory.{row_of, with_row, RowChanged, both_changed, BothAble, BothChanged}
use Rattle.sorted_rows.specs.Row.{Able, changed}
use Rattle.sorted_rows.specs.declared.row.Change.{Change}
use Rattle.sorted_rows.proofs.RowLaws.{length_changed}

pub row_end : (n d a : ℕ) → a < n → a * (d + 1) + (d + 1) ≤ n * (d + 1)
row_end n d a l = omega (arith, mul-add-lt a (d + 1) d n l (omega arith))

length_row : (d : ℕ) (memory : List ℕ) (a : ℕ) → length (row_of d memory a) ≡ min (d + 1) (length memory - a * (d + 1))
unfolding row_of
length_row d memory a =
    length-take (d + 1) (drop (a * (d + 1)) memory) ∙ ap (min (d + 1)) (length-drop (a * (d + 1)) memory)

pub length_row_of : (d : ℕ) (memory : List ℕ) (a : ℕ) → a * (d + 1) + (d + 1) ≤ length memory → length (row_of d memory a) ≡ d + 1
length_row_of d memory a l = omega (arith, length_row d memory a)

pub get_row_of : (d : ℕ) (memory : List ℕ) (a j z : ℕ) → j < d + 1 → get_or (row_of d memory a) j z ≡ get_or memory (a * (d + 1) + j) z
unfolding row_of
get_row_of d memory a j z l = get_or-take (d + 1) (drop (a * (d + 1)) memory) j z l ∙ get_or-drop (a * (d + 1)) memory j z

-- a part of the memory as a row, read and written
pub row_of_part : (d : ℕ) (memory : List ℕ) (a i k : ℕ) → i ≡ a * (d + 1) → k ≡ d + 1 → take k (drop i memory) ≡ row_of d memory a
unfolding row_of
row_of_part d memory a i k ei ek = ap₂ (λ (x y : ℕ). take x (drop y memory)) ek ei

pub with_row_part : (d : ℕ) (memory : List ℕ) (a i k : ℕ) (row : List ℕ) → i ≡ a * (d + 1) → k ≡ d + 1 → put_mid i k memory row ≡ with_row d memory a row
unfolding with_row
with_row_part d memory a i k row ei ek =
    ap₂ (λ (x y : ℕ). put_mid y x memory row) ek ei
    ∙ ap (λ (xs : List ℕ). take (a * (d + 1)) memory ++ (row ++ xs)) (drop-drop (d + 1) (a * (d + 1)) memory)

-- a row written over itself
with_own_row : (d : ℕ) (memory : List ℕ) (a : ℕ) → with_row d memory a (row_of d memory a) ≡ memory
unfolding row_of with_row
with_own_row d memory a =
    ap (λ (xs : List ℕ). take (a * (d + 1)) memory ++ (take (d + 1) (drop (a * (d + 1)) memory) ++ xs)) (sym (drop-drop (d + 1) (a * (d + 1)) memory))
    ∙ ap (λ (xs : List ℕ). take (a * (d + 1)) memory ++ xs) (take-append-drop (d + 1) (drop (a * (d + 1)) memory))
    ∙ take-append-drop (a * (d + 1)) memory

module _ (d : ℕ) (memory : List ℕ) (a : ℕ) (row : List ℕ) (long : length row ≡ d + 1) (within : a * (d + 1) + (d + 1) ≤ length memory) where
  length_start : length (take (a * (d + 1)) memory) ≡ a * (d + 1)
  length_start = length-take-le (a * (d + 1)) memory (omega arith)

  pub length_with_row : length (with_row d memory a row) ≡ length memory
  unfolding with_row
  length_with_row =
      omega (
        arith,
        length-append (take (a * (d + 1)) memory) (row ++ drop (a * (d + 1) + (d + 1)) memory),
        length-append row (drop (a * (d + 1) + (d + 1)) memory),
        length-drop (a * (d + 1) + (d + 1)) memory,
        length_start,
        long,
      )

  before_row : (i z : ℕ) → i < a * (d + 1) → get_or (with_row d memory a row) i z ≡ get_or memory i z
  unfolding with_row
  before_row i z l =
      get_or_append_left (take (a * (d + 1)) memory) (row ++ drop (a * (d + 1) + (d + 1)) memory) z i (subst (λ (k : ℕ). i < k) (sym length_start) l)
      ∙ get_or-take (a * (d + 1)) memory i z l

  pub beyond_row : (i z : ℕ) → a * (d + 1) + (d + 1) ≤ i → get_or (with_row d memory a row) i z ≡ get_or memory i z
  unfolding with_row
  beyond_row i z l =
      let same : a * (d + 1) + (d + 1) + (i - a * (d + 1) - (d + 1)) ≡ i = omega arith in
      get_or-append_right (take (a * (d + 1)) memory) (row ++ drop (a * (d + 1) + (d + 1)) memory) (a * (d + 1)) i z length_start (omega arith)
      ∙ get_or-append_right row (drop (a * (d + 1) + (d + 1)) memory) (d + 1) (i - a * (d + 1)) z long (omega arith)
      ∙ get_or-drop (a * (d + 1) + (d + 1)) memory (i - a * (d + 1) - (d + 1)) z
      ∙ ap (λ (k : ℕ). get_or memory k z) same

  pub drop_with_row : drop (a * (d + 1) + (d + 1)) (with_row d memory a row) ≡ drop (a * (d + 1) + (d + 1)) memory
  unfolding with_row
  drop_with_row =
      sym (drop-drop (d + 1) (a * (d + 1)) (take (a * (d + 1)) memory ++ (row ++ drop (a * (d + 1) + (d + 1)) memory)))
      ∙ ap (drop (d + 1)) (drop_at (take (a * (d + 1)) memory) (row ++ drop (a * (d + 1) + (d + 1)) memory) (a * (d + 1)) length_start)
      ∙ drop_at row (drop (a * (d + 1) + (d + 1)) memory) (d + 1) long

  pub row_of_with_same : row_of d (with_row d memory a row) a ≡ row
  unfolding row_of with_row
  row_of_with_same =
      ap (take (d + 1)) (drop_at (take (a * (d + 1)) memory) (row ++ drop (a * (d + 1) + (d + 1)) memory) (a * (d + 1)) length_start)
      ∙ take_at row (drop (a * (d + 1) + (d + 1)) memory) (d + 1) long

  pub row_of_with_other : (x : ℕ) → (x ≡ a → ⊥) → row_of d (with_row d memory a row) x ≡ row_of d memory x
  row_of_with_other x ne =
      same_lists (row_of d (with_row d memory a row) x) (row_of d memory x)
      (length_row d (with_row d memory a row) x ∙ ap (λ (k : ℕ). min (d + 1) (k - x * (d + 1))) length_with_row ∙ sym (length_row d memory x))
      (λ j z l.
      let inside : j < d + 1 = omega (arith, l, length_row d (with_row d memory a row) x) in
      get_row_of d (with_row d memory a row) x j z inside ∙ at j z inside ∙ sym (get_row_of d memory x j z inside))
    where
      at : (j z : ℕ) → j < d + 1 → get_or (with_row d memory a row) (x * (d + 1) + j) z ≡ get_or memory (x * (d + 1) + j) z
      at j z l =
          ⊎_elim
          (λ e. absurd (ne e))
          (λ o. ⊎_elim
          (λ less. before_row (x * (d + 1) + j) z (omega (arith, mul-add-lt x (d + 1) j a less l)))
          (λ more. beyond_row (x * (d + 1) + j) z (omega (arith, mul-add-lt a (d + 1) d x more (omega arith))))
          o)
          (cases_order x a)

-- as the code does it: a change of the part of the memory that is row a
pub row_changed : (change : Change) (d a b k : ℕ) (memory row : List ℕ) → k ≡ d + 1 → a * (d + 1) + (d + 1) ≤ length memory → length row ≡ length (take k (drop (a * (d + 1)) memory)) → (Able change (take k (drop (a * (d + 1)) memory)) b → row ≡ changed change (take k (drop (a * (d + 1)) memory)) b) → ((Able change (take k (drop (a * (d + 1)) memory)) b → ⊥) → row ≡ take k (drop (a * (d + 1)) memory)) → RowChanged (Able change) (changed change) d a b memory (put_mid (a * (d + 1)) k memory row)
row_changed change d a b k memory row ek within same changes keeps =
    record {
      row = λ _ able. written ∙ ap (with_row d memory a) (subst (λ (xs : List ℕ). Able change xs b → row ≡ changed change xs b) part changes able);
      kept = λ unable. written ∙ ap (with_row d memory a) (subst (λ (xs : List ℕ). (Able change xs b → ⊥) → row ≡ xs) part keeps (unable within)) ∙ with_own_row d memory a;
      same_length = ap length written ∙ length_with_row d memory a row long within;
      beyond = ap (drop (a * (d + 1) + (d + 1))) written ∙ drop_with_row d memory a row long within;
    }
  where
    part : take k (drop (a * (d + 1)) memory) ≡ row_of d memory a
    part = row_of_part d memory a (a * (d + 1)) k refl ek

    long : length row ≡ d + 1
    long = same ∙ ap length part ∙ length_row_of d memory a within

    written : put_mid (a * (d + 1)) k memory row ≡ with_row d memory a row
    written = with_row_part d memory a (a * (d + 1)) k row refl ek

-- ---- two rows

-- rows a and b are r and s now, and the others as they were
pub record TwoRows (d : ℕ) (memory after : List ℕ) (a b : ℕ) (r s : List ℕ) : Type 0 where
  pub same_length : length after ≡ length memory
  pub first : row_of d after a ≡ r
  pub second : row_of d after b ≡ s
  pub others : (x : ℕ) → (x ≡ a → ⊥) → (x ≡ b → ⊥) → row_of d after x ≡ row_of d memory x
  pub beyond : (i : ℕ) → a * (d + 1) + (d + 1) ≤ i → b * (d + 1) + (d + 1) ≤ i → get_or after i 0 ≡ get_or memory i 0

pub two_rows : (d : ℕ) (memory : List ℕ) (a b : ℕ) (r s : List ℕ) → (a ≡ b → ⊥) → length r ≡ d + 1 → length s ≡ d + 1 → a * (d + 1) + (d + 1) ≤ length memory → b * (d + 1) + (d + 1) ≤ length memory → TwoRows d memory (with_row d (with_row d memory a r) b s) a b r s
two_rows d memory a b r s ne lr ls wa wb =
    let wm : b * (d + 1) + (d + 1) ≤ length (with_row d memory a r) = omega (arith, length_with_row d memory a r lr wa) in
    record {
      same_length = length_with_row d (with_row d memory a r) b s ls wm ∙ length_with_row d memory a r lr wa;
      first = row_of_with_other d (with_row d memory a r) b s ls wm a ne ∙ row_of_with_same d memory a r lr wa;
      second = row_of_with_same d (with_row d memory a r) b s ls wm;
      others = λ x na nb. row_of_with_other d (with_row d memory a r) b s ls wm x nb ∙ row_of_with_other d memory a r lr wa x na;
      beyond = λ i la lb. beyond_row d (with_row d memory a r) b s ls wm i 0 lb ∙ beyond_row d memory a r lr wa i 0 la;
    }

drop_later : (m k : ℕ) (xs ys : List ℕ) → m ≤ k → drop m xs ≡ drop m ys → drop k xs ≡ drop k ys
drop_later m k xs ys l same =
    let past : m + (k - m) ≡ k = omega arith in
    ap (λ (i : ℕ). drop i xs) (sym past) ∙ sym (drop-drop (k - m) m xs) ∙ ap (drop (k - m)) same ∙ drop-drop (k - m) m ys ∙ ap (λ (i : ℕ). drop i ys) past

-- one row changed after the other
pub both_rows_changed : (change : Change) (n d a b : ℕ) (memory mid after : List ℕ) → a < n → b < n → RowChanged (Able change) (changed change) d a b memory mid → RowChanged (Able change) (changed change) d b a mid after → BothChanged change n d a b memory after
both_rows_changed change n d a b memory mid after la lb first second =
    record {
      rows = rows;
      same_length = second.same_length ∙ first.same_length;
      beyond = drop_later _ (n * (d + 1)) after mid (row_end n d b lb) second.beyond ∙ drop_later _ (n * (d + 1)) mid memory (row_end n d a la) first.beyond;
    }
  where
    rows : BothAble change n d a b memory → after ≡ both_changed (changed change) d memory a b
    rows both =
        let within : a * (d + 1) + (d + 1) ≤ length memory = omega (arith, row_end n d a la, both.long) in
        let r : List ℕ = changed change (row_of d memory a) b in
        let mid-is : mid ≡ with_row d memory a r = first.row within both.able_a in
        let long : length r ≡ d + 1 = length_changed change (row_of d memory a) b both.able_a ∙ length_row_of d memory a within in
        let same : row_of d mid b ≡ row_of d memory b = ap (λ (xs : List ℕ). row_of d xs b) mid-is ∙ row_of_with_other d memory a r long within b (λ e. both.apart (sym e)) in
        second.row
        (omega (arith, row_end n d b lb, both.long, ap length mid-is, length_with_row d memory a r long within))
        (subst (λ (row : List ℕ). Able change row a) (sym same) both.able_b)
        ∙ ap₂ (λ (xs row : List ℕ). with_row d xs b (changed change row a)) mid-is same
