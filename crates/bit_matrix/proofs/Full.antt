-- A load of a bit matrix without a spare is linked to every other.
use Rattle.std.proofs.Common.{◌≡◌, ℕ, ◌+◌, ◌-◌, ◌<◌, Bool, true, false, cond, ◌||◌, eqb, Some, None, Option, sym, refl, ap, ◌∙◌, arith}
use Rattle.std.proofs.lemmas.Bool.{lt-ltb, eq-eqb, or_from, or_left, or_right, cond-false, ne_eqb}
use Rattle.graph.specs.Graph.{Graph, Simple, added, degree}
use Rattle.graph.proofs.Counts.{count_lt, not_pair}
use Rattle.graph.proofs.Changes.{degree_added}
use Rattle.links.specs.Books.{by_book, adding, unless_open, unless_room}
use Rattle.links.specs.Refusals.{Reason}
use Rattle.links.proofs.Spares.{left}
use Rattle.links.proofs.Reasons.{TwoLoads, Open, open_none, open_granted, open_refused}
use Rattle.bit_matrix.specs.declared.BitMatrix.{BitMatrix}
use Rattle.bit_matrix.specs.Matrix.{matrix_graph, MatrixMade, matrix_ledger}
use Rattle.bit_matrix.proofs.Cells.{made_simple}

-- with the link that is not there, each of its ends would still have a degree below the size
module _ (g : Graph) (simple : Simple g) (a b : ℕ) (two : TwoLoads g.size a b) (off : g.linked a b ≡ false) where
  left_some : (x : ℕ) → x < g.size → (eqb a x || eqb b x) ≡ true → left g (g.size - 1) x ≡ 0 → ⊥
  left_some x l end none =
      let more : degree (added g a b) x ≡ degree g x + 1 =
      degree_added g a b simple two.apart two.a_below two.b_below off x ∙ ap (λ (t : Bool). degree g x + cond t 1 0) end in
      let fewer : degree (added g a b) x < g.size =
      count_lt g.size ((added g a b).linked x) x l
      (or_from (g.linked x x) _ (simple.loopless x) (not_pair a b x x (λ u v. two.apart (u ∙ sym v)) (λ u v. two.apart (u ∙ sym v)))) in
      let none' : g.size - 1 - degree g x ≡ 0 = rw (lt-ltb x g.size l) at none in
      omega (arith, more, fewer, none')

  pub left_at_first : left g (g.size - 1) a ≡ 0 → ⊥
  left_at_first = left_some a two.a_below (or_left (eqb a a) (eqb b a) (eq-eqb a a refl))

  pub left_at_second : left g (g.size - 1) b ≡ 0 → ⊥
  left_at_second = left_some b two.b_below (or_right (eqb a b) (eqb b b) (eq-eqb b b refl))

-- of an open pair only the room is asked
pub adding_open : (m : BitMatrix) → MatrixMade m → (a b : ℕ) → unless_open (matrix_graph m) false a b None ≡ None → adding (matrix_graph m) (matrix_ledger m) a b ≡ unless_room (matrix_ledger m).room None
adding_open m made a b none =
    let is-open : Open (matrix_graph m) false a b = (open_none (matrix_graph m) false a b None none).0 in
    open_granted (matrix_graph m) false a b _ is-open
    ∙ cond-false _ _ _ (or_from _ _
    (ne_eqb _ 0 (left_at_first (matrix_graph m) (made_simple m made) a b is-open.two is-open.off))
    (ne_eqb _ 0 (left_at_second (matrix_graph m) (made_simple m made) a b is-open.two is-open.off)))

-- ---- no load of an open pair is full

number_or_9 : Option Reason → ℕ
number_or_9 None = 9
number_or_9 (Some r) = r.number

other_number : (k : ℕ) (t : Bool) (o : Option Reason) → (k ≡ 9 → ⊥) → (o ≡ by_book 9 → ⊥) → cond t (by_book k) o ≡ by_book 9 → ⊥
unfolding number_or_9
other_number k true o apart more e = apart (ap number_or_9 e)
other_number k false o apart more e = more e

none_not_full : None ≡ by_book 9 → ⊥
none_not_full e = let z : ◌≡◌ {A = ℕ} 0 1 = cc in omega arith

pub not_full : (m : BitMatrix) → MatrixMade m → (a b : ℕ) → adding (matrix_graph m) (matrix_ledger m) a b ≡ by_book 9 → ⊥
not_full m made a b full = by_open (unless_open (matrix_graph m) false a b None) refl
  where
    by_open : (o : Option Reason) → unless_open (matrix_graph m) false a b None ≡ o → ⊥
    by_open None e =
        other_number 10 _ None (λ n. omega (arith, n)) none_not_full (sym (adding_open m made a b e) ∙ full)
    by_open (Some r) e =
        other_number 4 _ _ (λ n. omega (arith, n))
        (other_number 5 _ _ (λ n. omega (arith, n)) (other_number 6 ((matrix_graph m).linked a b) None (λ n. omega (arith, n)) none_not_full))
        (e ∙ sym (open_refused (matrix_graph m) false a b _ r e) ∙ full)
