-- The cells of a bit matrix, and the links that they make.
use Rattle.std.proofs.Common.{◌≡◌, ℕ, ◌+◌, ◌*◌, ◌/◌, ◌%◌, ◌<◌, ◌≤◌, Bool, false, ◌&&◌, eqb, ltb, List, length, get_or, Option, sym, subst, ap, ◌∙◌, ap₂, ⊎_elim, arith}
use Rattle.std.proofs.Math.Nat.{mul-le-mul_right}
use Rattle.std.proofs.lemmas.Nat.{mul-add-lt, div-mul-add, mod-mul-add}
use Rattle.std.proofs.lemmas.Bool.{cases_lt, cases_eq, eq-eqb, ne_eqb, eqb-true, cases_Bool, and_from, and_left, and_right, and_parts, lt-ltb, le-ltb, ltb-true, cond-true, cond-false}
use Rattle.std.proofs.lemmas.List.{get_or-take, get_or-drop, length-drop, length-take-le}
use Rattle.graph.specs.Graph.{Simple, count, degree, Next}
use Rattle.graph.proofs.Counts.{count_ext, count_none, count_cut}
use Rattle.bits.specs.Bit.{bit}
use Rattle.bits.proofs.Bitwise.{bit_zero}
use Rattle.bit_matrix.specs.declared.BitMatrix.{BitMatrix}
use Rattle.bit_matrix.specs.Matrix.{row_words, all_words, word_at, cell, is_place, matrix_row, matrix, matrix_graph, MatrixMade}
use Rattle.bit_matrix.specs.Theorems.{WordsHold}
use Rattle.bits.specs.Words.{member}
use Rattle.bits.proofs.Words.{member_past}

pub linked_in : (n : ℕ) (words : List ℕ) (a b : ℕ) → a < n → b < n → (matrix n words).linked a b ≡ cell n words a b
linked_in n words a b l m = rw (lt-ltb a n l, lt-ltb b n m)

pub linked_past_row : (n : ℕ) (words : List ℕ) (a b : ℕ) → n ≤ a → (matrix n words).linked a b ≡ false
linked_past_row n words a b l = and_left (ltb a n) _ (le-ltb a n l)

pub linked_past : (n : ℕ) (words : List ℕ) (a b : ℕ) → n ≤ b → (matrix n words).linked a b ≡ false
linked_past n words a b l = and_right (ltb a n) _ (and_left (ltb b n) _ (le-ltb b n l))

pub made_simple : (m : BitMatrix) → MatrixMade m → Simple (matrix_graph m)
made_simple m made =
    record {
      small = made.small;
      loopless = λ a. ⊎_elim (λ l. linked_in m.size m.words.now a a l l ∙ made.loopless a l) (linked_past m.size m.words.now a a) (cases_lt a m.size);
      symmetric = λ a b.
          ⊎_elim
          (λ l. ⊎_elim
          (λ k. linked_in m.size m.words.now a b l k ∙ made.symmetric a b l k ∙ sym (linked_in m.size m.words.now b a k l))
          (λ k. linked_past m.size m.words.now a b k ∙ sym (linked_past_row m.size m.words.now b a k))
          (cases_lt b m.size))
          (λ l. linked_past_row m.size m.words.now a b l ∙ sym (linked_past m.size m.words.now b a l))
          (cases_lt a m.size);
      below = λ a b e. ltb-true a m.size (and_parts (ltb a m.size) _ e).0;
    }

-- ---- the place of a row

row_end : (n a : ℕ) → a < n → a * row_words n + row_words n ≤ all_words n
row_end n a l = let more : a + 1 ≤ n = omega arith in omega (arith, mul-le-mul_right (row_words n) more)

pub length_row : (m : BitMatrix) → MatrixMade m → (a : ℕ) → a < m.size → length (matrix_row m.size m.words.now a) ≡ row_words m.size
length_row m made a l =
    ap length (cond-true _ _ _ (lt-ltb a m.size l))
    ∙ length-take-le (row_words m.size) _ (omega (arith, length-drop (a * row_words m.size) m.words.now, row_end m.size a l, made.enough))

-- row a is the set of the loads that are linked to a
pub row_linked : (m : BitMatrix) → MatrixMade m → (a b : ℕ) → member (matrix_row m.size m.words.now a) b ≡ (matrix_graph m).linked a b
unfolding cell
row_linked m made a b =
    ⊎_elim
    (λ l. ⊎_elim
    (λ h. in_row l h ∙ ⊎_elim (λ k. sym (linked_in n words a b l k)) (λ k. made.padded a b l k h ∙ sym (linked_past n words a b k)) (cases_lt b n))
    (λ h. member_past (matrix_row n words a) b (omega (arith, length_row m made a l)) ∙ sym (linked_past n words a b (omega arith)))
    (cases_lt b (64 * row_words n)))
    (λ l. ap (λ (row : List ℕ). member row b) (cond-false _ _ _ (le-ltb a n l)) ∙ bit_zero (b % 64) ∙ sym (linked_past_row n words a b l))
    (cases_lt a n)
  where
    n : ℕ
    n = m.size

    words : List ℕ
    words = m.words.now

    in_row : a < n → b < 64 * row_words n → member (matrix_row n words a) b ≡ cell n words a b
    in_row l h =
        ap (λ (w : ℕ). bit w (b % 64))
        (ap (λ (row : List ℕ). get_or row (b / 64) 0) (cond-true _ _ _ (lt-ltb a n l))
        ∙ get_or-take (row_words n) _ (b / 64) 0 (omega arith) ∙ get_or-drop (a * row_words n) words (b / 64) 0)

pub row_next : (m : BitMatrix) → MatrixMade m → (a : ℕ) (row : List ℕ) → row ≡ matrix_row m.size m.words.now a → (from : ℕ) (r : Option ℕ) → Next (member row) from r → Next ((matrix_graph m).linked a) from r
row_next m made a row is from r =
    subst (λ (test : ℕ → Bool). Next test from r) (λ i. λ b. (ap (λ (xs : List ℕ). member xs b) is ∙ row_linked m made a b) i)

pub row_degree : (m : BitMatrix) → MatrixMade m → (a : ℕ) → count (64 * length (matrix_row m.size m.words.now a)) (member (matrix_row m.size m.words.now a)) ≡ degree (matrix_graph m) a
row_degree m made a =
    count_ext _ _ ((matrix_graph m).linked a) (λ b _. row_linked m made a b)
    ∙ ⊎_elim
    (λ l. count_cut _ m.size ((matrix_graph m).linked a) (omega (arith, length_row m made a l)) (λ b h _. linked_past m.size m.words.now a b h))
    (λ l. count_none _ _ (λ b _. linked_past_row m.size m.words.now a b l) ∙ sym (count_none m.size _ (λ b _. linked_past_row m.size m.words.now a b l)))
    (cases_lt a m.size)

-- word i of row a, bit by bit
pub words_hold : (m : BitMatrix) → MatrixMade m → WordsHold (matrix_graph m) m.words.now
unfolding cell
words_hold m made =
    record {
      links = λ a i j l k h.
          here a i j h ∙ ⊎_elim
          (λ in-row. sym (linked_in m.size m.words.now a (64 * i + j) l in-row))
          (λ past. none a i j l k h past ∙ sym (linked_past m.size m.words.now a (64 * i + j) past))
          (cases_lt (64 * i + j) m.size);
      padding = λ a i j l k h past. here a i j h ∙ none a i j l k h past;
    }
  where
    here : (a i j : ℕ) → j < 64 → bit (get_or m.words.now (a * row_words m.size + i) 0) j ≡ cell m.size m.words.now a (64 * i + j)
    here a i j h =
        let word : i ≡ (64 * i + j) / 64 = omega arith in
        let place : j ≡ (64 * i + j) % 64 = omega arith in
        ap₂ (λ (x y : ℕ). bit (get_or m.words.now (a * row_words m.size + x) 0) y) word place

    none : (a i j : ℕ) → a < m.size → i < row_words m.size → j < 64 → m.size ≤ 64 * i + j → cell m.size m.words.now a (64 * i + j) ≡ false
    none a i j l k h past = made.padded a (64 * i + j) l past (omega (arith, k, h))

pub word_in : (n a b : ℕ) → a < n → b < 64 * row_words n → word_at n a b < all_words n
word_in n a b l m = omega (arith, mul-add-lt a (row_words n) (b / 64) n l (omega arith))

-- two cells in rows of the same length have one place only if they are the same
pub same_place : (n a b x y : ℕ) → b < 64 * row_words n → y < 64 * row_words n → is_place n a b (word_at n x y) (y % 64) ≡ (eqb a x && eqb b y)
same_place n a b x y l m =
    ⊎_elim
    (λ row. ⊎_elim
    (λ column.
    and_from _ _ (eq-eqb (word_at n a b) (word_at n x y) (ap₂ (λ (i j : ℕ). word_at n i j) row column)) (eq-eqb (b % 64) (y % 64) (ap (λ (z : ℕ). z % 64) column))
    ∙ sym (and_from _ _ (eq-eqb a x row) (eq-eqb b y column)))
    (λ apart. off (λ e f. apart (omega (arith, column_of e))) ∙ sym (and_right (eqb a x) _ (ne_eqb b y apart)))
    (cases_eq b y))
    (λ apart. off (λ e f. apart (row_of e)) ∙ sym (and_left (eqb a x) _ (ne_eqb a x apart)))
    (cases_eq a x)
  where
    row_of : word_at n a b ≡ word_at n x y → a ≡ x
    row_of e = sym (div-mul-add a (row_words n) (b / 64) (omega arith)) ∙ ap (λ (z : ℕ). z / row_words n) e ∙ div-mul-add x (row_words n) (y / 64) (omega arith)

    column_of : word_at n a b ≡ word_at n x y → b / 64 ≡ y / 64
    column_of e = sym (mod-mul-add a (row_words n) (b / 64) (omega arith)) ∙ ap (λ (z : ℕ). z % row_words n) e ∙ mod-mul-add x (row_words n) (y / 64) (omega arith)

    off : (word_at n a b ≡ word_at n x y → b % 64 ≡ y % 64 → ⊥) → is_place n a b (word_at n x y) (y % 64) ≡ false
    off apart =
        ⊎_elim
        (λ e. ⊎_elim (λ f. absurd (apart (eqb-true _ _ e) (eqb-true _ _ f))) (λ f. and_right _ _ f) (cases_Bool (eqb (b % 64) (y % 64))))
        (λ e. and_left _ _ e)
        (cases_Bool (eqb (word_at n a b) (word_at n x y)))
