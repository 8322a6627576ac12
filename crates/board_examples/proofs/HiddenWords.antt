-- The words below a filter. Of a hidden link the board knows nothing, but it takes a spare of its two loads.
use Rattle.std.proofs.Common.{◌≡◌, ℕ, ◌+◌, ◌-◌, ◌<◌, ◌≤◌, Bool, true, false, cond, not, ◌&&◌, nat_lt, List, [], ◌∷◌, None, sym, refl, ap, ◌∙◌, ap₂, subst, arith}
use Rattle.std.proofs.lemmas.Bool.{false≢true}
use Rattle.std.proofs.lemmas.Bool.Decides.{nat_tests}
use Rattle.graph.specs.Graph.{Graph, count}
use Rattle.links.specs.Books.{Ledger}
use Rattle.bits.specs.Bit.{bit}
use Rattle.bit_matrix.specs.declared.BitMatrix.{BitMatrix}
use Rattle.bit_matrix.specs.Matrix.{matrix_graph, MatrixMade, matrix_ledger, checking}
use Rattle.class_filter.specs.declared.ClassFilter.{ClassFilter}
use Rattle.class_filter.specs.Classes.{class_of, bars_classes, hidden, filter_graph, filter_ledger}
use Rattle.rules.specs.Boards.{by_number}
use Rattle.rules.specs.Calls.{Position, unlink, after}
use Rattle.board_examples.proofs.HiddenLinks.{hides, start}
use Rattle.board_examples.proofs.Lent.{Narrow, Words}

-- after 0 and 1 could not be unlinked, and 1 and 2 were
abbrev pub after_hidden : Position
after_hidden = after by_number start (unlink 0 1)

abbrev pub after_visible : Position
after_visible = after by_number after_hidden (unlink 1 2)

pub record Left (x : Position) : Type 0 where
  pub size : x.graph.size ≡ 3
  pub spare_0 : x.ledger.spare 0 ≡ 1
  pub spare_1 : x.ledger.spare 1 ≡ 1
  pub seen_02 : hides 0 2 ≡ false
  pub seen_12 : hides 1 2 ≡ false
  pub seen_20 : hides 2 0 ≡ false
  pub seen_21 : hides 2 1 ≡ false
  pub not_02 : x.graph.linked 0 2 ≡ false
  pub not_12 : x.graph.linked 1 2 ≡ false
  pub not_20 : x.graph.linked 2 0 ≡ false
  pub not_21 : x.graph.linked 2 1 ≡ false

pub left : Left after_visible
unfolding bars_classes bit
left = record {
  size = refl;
  spare_0 = refl;
  spare_1 = refl;
  seen_02 = refl;
  seen_12 = refl;
  seen_20 = refl;
  seen_21 = refl;
  not_02 = refl;
  not_12 = refl;
  not_20 = refl;
  not_21 = refl;
}

-- the three words that are left
pub three_narrow : Narrow 3 (2 ∷ 1 ∷ 0 ∷ [])
three_narrow = record { small = omega arith; size = refl; narrow = refl }

pub three_words_long : (memory : ℕ) → checking 3 3 memory ≡ None → 3 ≤ memory
three_words_long memory none = grind (arith, nat_tests)

pub same_hidden : (f n : ClassFilter BitMatrix) (classes bars : List ℕ) → f.classes ≡ n.classes → f.bars ≡ n.bars → ((a : ℕ) → class_of n.classes a ≡ class_of classes a) → n.bars ≡ bars →
    (a b : ℕ) → hidden f.classes f.bars a b ≡ hidden classes bars a b
same_hidden f n classes bars kept-classes kept-bars given-classes given-bars a b =
    ap₂ (λ (xs ys : List ℕ). hidden xs ys a b) kept-classes (kept-bars ∙ given-bars)
    ∙ ap₂ (λ (i j : ℕ). bars_classes bars i j) (given-classes a) (given-classes b)

seen : (l h : Bool) → h ≡ false → (l && not h) ≡ false → l ≡ false
seen false h shown none = refl
seen true false shown none = none
seen true true shown none = absurd (false≢true (sym shown))

no_cell : (x y z : Bool) → z ≡ false → (x && (y && z)) ≡ false
no_cell true true z none = none
no_cell true false z none = refl
no_cell false y z none = refl

one_of : (x : Bool) (y : ℕ) → y ≡ 0 → cond x 1 0 + y ≡ 1 → x ≡ true
one_of true y none one = refl
one_of false y none one = absurd (omega (arith, none, one))

module _ (f : ClassFilter BitMatrix) (x : Position) (graph_is : filter_graph matrix_graph f ≡ x.graph) (ledger_is : filter_ledger matrix_graph matrix_ledger f ≡ x.ledger) (made : MatrixMade f.below) (hidden_is : (a b : ℕ) → hidden f.classes f.bars a b ≡ hides a b) (known : Left x) where
  size : f.below.size ≡ 3
  size = ap (λ (h : Graph). h.size) graph_is ∙ known.size

  visible : (a b : ℕ) → hides a b ≡ false → x.graph.linked a b ≡ false → (matrix_graph f.below).linked a b ≡ false
  visible a b shown none = seen ((matrix_graph f.below).linked a b) (hidden f.classes f.bars a b) (hidden_is a b ∙ shown) (ap (λ (h : Graph). h.linked a b) graph_is ∙ none)

  loop : (a : ℕ) → a < 3 → (matrix_graph f.below).linked a a ≡ false
  loop a l = no_cell (nat_lt a f.below.size) (nat_lt a f.below.size) _ (made.loopless a (omega (arith, size)))

  spent_0 : 3 - 1 - count 3 ((matrix_graph f.below).linked 0) ≡ 1
  spent_0 =
      subst (λ (n : ℕ). cond (nat_lt 0 n) (n - 1 - count n ((matrix_graph f.below).linked 0)) 0 ≡ 1) size (ap (λ (l : Ledger). l.spare 0) ledger_is ∙ known.spare_0)

  spent_1 : 3 - 1 - count 3 ((matrix_graph f.below).linked 1) ≡ 1
  spent_1 =
      subst (λ (n : ℕ). cond (nat_lt 1 n) (n - 1 - count n ((matrix_graph f.below).linked 1)) 0 ≡ 1) size (ap (λ (l : Ledger). l.spare 1) ledger_is ∙ known.spare_1)

  none_of : (b : Bool) → b ≡ false → ◌≡◌ {A = ℕ} (cond b 1 0) 0
  none_of b off = ap {B = ℕ} (λ (t : Bool). cond t 1 0) off

  link_01 : (matrix_graph f.below).linked 0 1 ≡ true
  link_01 =
      let row = (matrix_graph f.below).linked 0 in
      let others : cond (row 0) 1 0 + cond (row 2) 1 0 ≡ 0 = omega (arith, none_of (row 0) (loop 0 (omega arith)), none_of (row 2) (visible 0 2 known.seen_02 known.not_02)) in
      one_of (row 1) (cond (row 0) 1 0 + cond (row 2) 1 0) others (omega (arith, spent_0, others))

  link_10 : (matrix_graph f.below).linked 1 0 ≡ true
  link_10 =
      let row = (matrix_graph f.below).linked 1 in
      let others : cond (row 1) 1 0 + cond (row 2) 1 0 ≡ 0 = omega (arith, none_of (row 1) (loop 1 (omega arith)), none_of (row 2) (visible 1 2 known.seen_12 known.not_12)) in
      one_of (row 0) (cond (row 1) 1 0 + cond (row 2) 1 0) others (omega (arith, spent_1, others))

  pub hidden_words : Words 3 (matrix_graph f.below) (2 ∷ 1 ∷ 0 ∷ [])
  unfolding bit
  hidden_words = record {
    values_are = three_narrow;
    one_word = refl;
    bits =
        let l00 = sym (loop 0 (omega arith)) in
        let l01 = sym link_01 in
        let l02 = sym (visible 0 2 known.seen_02 known.not_02) in
        let l10 = sym link_10 in
        let l11 = sym (loop 1 (omega arith)) in
        let l12 = sym (visible 1 2 known.seen_12 known.not_12) in
        let l20 = sym (visible 2 0 known.seen_20 known.not_20) in
        let l21 = sym (visible 2 1 known.seen_21 known.not_21) in
        let l22 = sym (loop 2 (omega arith)) in
        λ i. (l00 i ∷ l01 i ∷ l02 i ∷ []) ∷ (l10 i ∷ l11 i ∷ l12 i ∷ []) ∷ (l20 i ∷ l21 i ∷ l22 i ∷ []) ∷ [];
  }
