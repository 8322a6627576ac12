-- What every word and number of lent memory holds, from the links of the book in it.
use Rattle.std.proofs.Common.{◌≡◌, ℕ, zero, suc, ◌+◌, ◌-◌, ◌*◌, ◌^◌, ◌<◌, ◌≤◌, true, false, eqb, nat_lt, List, [], ◌∷◌, ◌++◌, length, length-append, append_assoc, get_or, take, drop, replicate, None, Option, inl, inr, sym, refl, ap, ◌∙◌, ap₂, subst, arith}
use Rattle.std.proofs.lemmas.Bool.{cases_lt, ltb-true}
use Rattle.std.proofs.lemmas.Grind.{same_number_lists}
use Rattle.std.proofs.lemmas.List.{length-drop, get_or-drop, drop-drop, take-append-drop, get_or_append_left, get_or-append_right}
use Rattle.std.proofs.lemmas.Nat.Bits.{bit_at_above}
use Rattle.std.proofs.Math.Nat.{add-mul, pow-le-pow_right}
use Rattle.graph.specs.Graph.{Graph, degree}
use Rattle.bits.specs.Bit.{bit}
use Rattle.bits.proofs.Bitwise.{same_word}
use Rattle.links.specs.Refusals.{Reason}
use Rattle.bit_matrix.specs.declared.BitMatrix.{BitMatrix}
use Rattle.bit_matrix.specs.Matrix.{row_words, all_words, matrix_graph, MatrixMade, matrix_fixed, Making}
use Rattle.bit_matrix.specs.Theorems.{MemoryHolds, MemoryFollows}
use Rattle.sorted_rows.specs.RowMemory.{row_of}
use Rattle.sorted_rows.specs.declared.SortedRows.{SortedRows}
use Rattle.sorted_rows.specs.Rows.{rows_graph, RowsMade, rows_fixed, Making as RowsMaking}
use Rattle.sorted_rows.specs.Theorems.{linked_loads, MemoryHolds as RowsMemoryHolds, MemoryFollows as RowsFollow}
use Rattle.rules.specs.Boards.{listed}
use Rattle.board_examples.specs.Lent.{WordsAre}
use Rattle.board_examples.proofs.ByLaw.{get_listed}

-- equal lists of values are equal values
at_list : {A : Type 0} (f g : ℕ → A) (n k : ℕ) → listed f 0 n ≡ listed g 0 n → k < n → f k ≡ g k
at_list f g n k same l =
    let e : 0 + k ≡ k = omega arith in
    sym (get_listed f 0 n k (f 0) l ∙ ap f e) ∙ ap (λ (xs : List _). get_or xs k (f 0)) same ∙ get_listed g 0 n k (f 0) l ∙ ap g e

bit_above : (w n j : ℕ) → w < 2 ^ n → n ≤ j → bit w j ≡ false
unfolding bit
bit_above w n j fits past = ap (λ (x : ℕ). eqb x 1) (bit_at_above w n j fits past)

-- ---- a bit matrix of at most 64 loads

-- n values of at most n bits
pub record Narrow (n : ℕ) (values : List ℕ) : Type 0 where
  pub small : n ≤ 64
  pub size : length values ≡ n
  pub narrow : listed (λ a. nat_lt (get_or values a 0) (2 ^ n)) 0 n ≡ listed (λ _. true) 0 n

-- the words that a graph of n loads gives
pub record Words (n : ℕ) (g : Graph) (values : List ℕ) : Type 0 where
  pub values_are : Narrow n values
  pub one_word : row_words n ≡ 1
  pub bits : listed (λ a. listed (bit (get_or values a 0)) 0 n) 0 n ≡ listed (λ a. listed (g.linked a) 0 n) 0 n

module _ (n : ℕ) (g : Graph) (values before after : List ℕ) (words : Words n g values) (holds : MemoryHolds n g before after) where
  word : (a j : ℕ) → a < n → j < 64 → bit (get_or after a 0) j ≡ bit (get_or values a 0) j
  word a j l h =
      let v = get_or values a 0 in
      let narrow : v < 2 ^ n = ltb-true v (2 ^ n) (at_list (λ b. nat_lt (get_or values b 0) (2 ^ n)) (λ _. true) n a words.values_are.narrow l) in
      let row : listed (bit v) 0 n ≡ listed (g.linked a) 0 n = at_list (λ b. listed (bit (get_or values b 0)) 0 n) (λ b. listed (g.linked b) 0 n) n a words.bits l in
      let inside : a < g.size = omega (arith, holds.same_size) in
      let width : row_words g.size ≡ 1 = ap row_words holds.same_size ∙ words.one_word in
      let some : 0 < row_words g.size = omega (arith, width) in
      let place : a * row_words g.size + 0 ≡ a = ap (λ (w : ℕ). a * w + 0) width ∙ omega arith in
      let column : 64 * 0 + j ≡ j = omega arith in
      ap (λ (k : ℕ). bit (get_or after k 0) j) (sym place)
      ∙ elim (cases_lt j n) [
        | inl m ↦ holds.matrix.links a 0 j inside some h ∙ ap (g.linked a) column ∙ sym (at_list (bit v) (g.linked a) n j row m)
        | inr m ↦
            let past : g.size ≤ 64 * 0 + j = omega (arith, holds.same_size) in
            holds.matrix.padding a 0 j inside some h past ∙ sym (bit_above v n j narrow m)
      ]

  pub words_then : WordsAre values before after
  words_then = record {
    same_length = holds.same_length;
    bits = λ k j l. word k j (omega (arith, words.values_are.size));
    beyond = λ k l.
        let need : all_words n ≡ n = ap (λ (w : ℕ). n * w) words.one_word ∙ omega arith in
        holds.beyond k (omega (arith, need, words.values_are.size));
  }

-- memory that was lent, and in which no word has more than 64 bits
pub words_exact : (n : ℕ) (values before after lent : List ℕ) → Narrow n values → WordsAre values before after → lent ≡ after → ((i : ℕ) → get_or lent i 0 < 2 ^ 64) →
    n ≤ length before → lent ≡ values ++ drop n before
words_exact n values before after lent words are same fits long =
    same_number_lists lent (values ++ drop n before) (omega (arith, ap length same, are.same_length, length-append values (drop n before), length-drop n before, words.size))
    (λ k l. ap (λ (xs : List ℕ). get_or xs k 0) same ∙ elim (cases_lt k n) [
      | inl m ↦
          let v = get_or values k 0 in
          let narrow : v < 2 ^ n = ltb-true v (2 ^ n) (at_list (λ b. nat_lt (get_or values b 0) (2 ^ n)) (λ _. true) n k words.narrow m) in
          let fits-v : v < 2 ^ 64 = omega (arith, narrow, pow-le-pow_right {n = 2} (omega arith) {i = n} {j = 64} words.small) in
          let fits-k : get_or after k 0 < 2 ^ 64 = subst (λ (xs : List ℕ). get_or xs k 0 < 2 ^ 64) same (fits k) in
          same_word (get_or after k 0) v fits-k fits-v (λ j h. are.bits k j (omega (arith, words.size)) h)
          ∙ sym (get_or_append_left values (drop n before) 0 k (omega (arith, words.size)))
      | inr m ↦
          let place : n + (k - n) ≡ k = omega arith in
          are.beyond k (omega (arith, words.size)) ∙ ap (λ (i : ℕ). get_or before i 0) (sym place) ∙ sym (get_or-drop n before (k - n) 0)
          ∙ sym (get_or-append_right values (drop n before) n k 0 words.size m)
    ])

-- ---- rows

-- rows one after another
abbrev pub joined : (ℕ → List ℕ) → ℕ → ℕ → List ℕ
joined row i zero = []
joined row i (suc n) = row i ++ joined row (i + 1) n

joined_same : (f g : ℕ → List ℕ) (i n : ℕ) → ((a : ℕ) → a < i + n → f a ≡ g a) → joined f i n ≡ joined g i n
joined_same f g i zero same = refl
joined_same f g i (suc n) same = ap₂ (λ (x y : List ℕ). x ++ y) (same i (omega arith)) (joined_same f g (i + 1) n (λ a l. same a (omega arith)))

joined_rows : (d : ℕ) (memory : List ℕ) (i n : ℕ) → drop (i * (d + 1)) memory ≡ joined (row_of d memory) i n ++ drop ((i + n) * (d + 1)) memory
unfolding row_of
joined_rows d memory i zero = let e : i ≡ i + 0 = omega arith in ap (λ (k : ℕ). drop (k * (d + 1)) memory) e
joined_rows d memory i (suc n) =
    let w = d + 1 in
    let p = i * w in
    let row = take w (drop p memory) in
    let next : p + w ≡ (i + 1) * w = omega (arith, add-mul i 1 w) in
    let past : i + 1 + n ≡ i + suc n = omega arith in
    sym (take-append-drop w (drop p memory))
    ∙ ap (λ (rest : List ℕ). row ++ rest) (drop-drop w p memory ∙ ap (λ (k : ℕ). drop k memory) next ∙ joined_rows d memory (i + 1) n ∙ ap (λ (k : ℕ). joined (row_of d memory) (i + 1) n ++ drop (k * w) memory) past)
    ∙ sym (append_assoc row (joined (row_of d memory) (i + 1) n) (drop ((i + suc n) * w) memory))

-- the numbers of row a, from the links of a graph
abbrev pub row_of_graph : ℕ → Graph → ℕ → List ℕ
row_of_graph d g a = degree g a ∷ (linked_loads g a ++ replicate (d - degree g a) 0)

pub numbers_then : (n d : ℕ) (g : Graph) (before after : List ℕ) → RowsMemoryHolds n d g before after → after ≡ joined (row_of_graph d g) 0 n ++ drop (n * (d + 1)) before
numbers_then n d g before after holds =
    let p = n * (d + 1) in
    let size : 0 + n ≡ n = omega arith in
    let rest : drop p after ≡ drop p before =
    same_number_lists (drop p after) (drop p before) (omega (arith, length-drop p after, length-drop p before, holds.same_length))
    (λ k l. get_or-drop p after k 0 ∙ holds.beyond (p + k) (omega arith) ∙ sym (get_or-drop p before k 0)) in
    let start : 0 * (d + 1) ≡ 0 = omega arith in
    ap (λ (k : ℕ). drop k after) (sym start) ∙ joined_rows d after 0 n
    ∙ ap₂ (λ (x y : List ℕ). x ++ y) (joined_same (row_of d after) (row_of_graph d g) 0 n (λ a l. holds.rows a (omega (arith, holds.same_size)))) (ap (λ (k : ℕ). drop (k * (d + 1)) after) size ∙ rest)

-- ---- a book made in memory, and what became of it

module _ (n limit : ℕ) (reason : Option Reason) (before : List ℕ) (m u : BitMatrix) (g : Graph) (values : List ℕ) where
  pub words_left : reason ≡ None → Making reason n limit before m → matrix_fixed u ≡ matrix_fixed m → matrix_graph u ≡ g → MatrixMade u → MemoryFollows → Words n g values →
      WordsAre values before u.words.now
  words_left none making stays graph_u made_u follows words =
      let holds = follows n limit before m u (subst (λ (o : Option Reason). Making o n limit before m) none making) stays made_u in
      words_then n g values before u.words.now words (subst (λ (h : Graph). MemoryHolds n h before u.words.now) graph_u holds)

module _ (n d limit : ℕ) (reason : Option Reason) (before : List ℕ) (s u : SortedRows) (g : Graph) where
  pub numbers_left : reason ≡ None → RowsMaking reason n d limit before s → rows_fixed u ≡ rows_fixed s → rows_graph u ≡ g → RowsMade u → RowsFollow →
      u.rows.now ≡ joined (row_of_graph d g) 0 n ++ drop (n * (d + 1)) before
  numbers_left none making stays graph_u made_u follows =
      let holds = follows n d limit before s u (subst (λ (o : Option Reason). RowsMaking o n d limit before s) none making) stays made_u in
      numbers_then n d g before u.rows.now (subst (λ (h : Graph). RowsMemoryHolds n d h before u.rows.now) graph_u holds)

-- the same of numbers that were lent
pub numbers_exact : (lent held expected : List ℕ) → lent ≡ held → held ≡ expected → lent ≡ expected
numbers_exact lent held expected same are = same ∙ are
