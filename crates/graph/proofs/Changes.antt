-- Graphs with a link more, with a link fewer, and without the links of one load.
use Rattle.std.proofs.Common.{◌≡◌, ℕ, zero, suc, ◌+◌, ◌<◌, ◌≤◌, true, false, cond, not, ◌||◌, eqb, ◌⊎◌, sym, refl, ◌∙◌, inl, inr, arith}
use Rattle.std.proofs.lemmas.Bool.{cases_Bool, cases_eq, and_parts, and_left, not-true, or_parts, eqb-false, eq-eqb, ne_eqb}
use Rattle.std.proofs.lemmas.Bool.Decides.{nat_tests}
use Rattle.graph.specs.Graph.{Graph, Simple, count, total, degree, link_count, is_pair, added, removed}
use Rattle.graph.specs.Isolated.{isolated}
use Rattle.graph.proofs.Counts.{count_ext, count_none, total_ext, OneMore, link_count_more, degree_more}
use Rattle.graph.proofs.Injections.{except, count_except, total_plus, total_count, handshake}

-- ---- a link more

pub added_simple : (g : Graph) (a b : ℕ) → Simple g → (a ≡ b → ⊥) → a < g.size → b < g.size → Simple (added g a b)
added_simple g a b s h i j = record {
  small = s.small;
  loopless = λ u. let e = s.loopless u in grind (arith, nat_tests);
  symmetric = λ u v. let e = s.symmetric u v in grind (arith, nat_tests);
  below = λ u v e. let f = s.below u v in grind (arith, nat_tests);
}

pub added_on : (g : Graph) (a b : ℕ) → (added g a b).linked a b ≡ true
added_on g a b = grind (arith, nat_tests)

-- the links of a load other than a and b are the same
pub added_apart : (g : Graph) (a b u v : ℕ) → (u ≡ a → ⊥) → (u ≡ b → ⊥) → (added g a b).linked u v ≡ g.linked u v
added_apart g a b u v h k = grind (arith, nat_tests)

pub added_apart_back : (g : Graph) (a b u v : ℕ) → (v ≡ a → ⊥) → (v ≡ b → ⊥) → (added g a b).linked u v ≡ g.linked u v
added_apart_back g a b u v h k = grind (arith, nat_tests)

-- and so are those of a and b but the new one
pub added_left : (g : Graph) (a b v : ℕ) → (v ≡ b → ⊥) → (a ≡ b → ⊥) → (added g a b).linked a v ≡ g.linked a v
added_left g a b v h k = grind (arith, nat_tests)

pub added_right : (g : Graph) (a b v : ℕ) → (v ≡ a → ⊥) → (a ≡ b → ⊥) → (added g a b).linked b v ≡ g.linked b v
added_right g a b v h k = grind (arith, nat_tests)

added_more : (g : Graph) (a b : ℕ) → Simple g → g.linked a b ≡ false → OneMore g.linked (added g a b).linked a b
added_more g a b s off = record {
  off = off;
  off_back = s.symmetric b a ∙ off;
  on = grind (arith, nat_tests);
  on_back = grind (arith, nat_tests);
  same = λ x y e. grind (arith, nat_tests);
}

pub link_count_added : (g : Graph) (a b : ℕ) → Simple g → (a ≡ b → ⊥) → a < g.size → b < g.size → g.linked a b ≡ false →
    link_count (added g a b) ≡ link_count g + 1
link_count_added g a b s apart i j off = link_count_more g.size g.linked (added g a b).linked a b i j apart (added_more g a b s off)

pub degree_added : (g : Graph) (a b : ℕ) → Simple g → (a ≡ b → ⊥) → a < g.size → b < g.size → g.linked a b ≡ false →
    (x : ℕ) → degree (added g a b) x ≡ degree g x + cond (eqb a x || eqb b x) 1 0
degree_added g a b s apart i j off = degree_more g.size g.linked (added g a b).linked a b i j apart (added_more g a b s off)

-- ---- a link fewer

pub removed_simple : (g : Graph) (a b : ℕ) → Simple g → Simple (removed g a b)
removed_simple g a b s = record {
  small = s.small;
  loopless = λ u. let e = s.loopless u in grind (arith, nat_tests);
  symmetric = λ u v. let e = s.symmetric u v in grind (arith, nat_tests);
  below = λ u v e. s.below u v (and_parts (g.linked u v) (not (is_pair a b u v)) e).0;
}

pub removed_old : (g : Graph) (a b u v : ℕ) → (removed g a b).linked u v ≡ true → g.linked u v ≡ true
removed_old g a b u v e = (and_parts (g.linked u v) (not (is_pair a b u v)) e).0

pub removed_off : (g : Graph) (a b u v : ℕ) → ((u ≡ a) × (v ≡ b)) ⊎ ((u ≡ b) × (v ≡ a)) → (removed g a b).linked u v ≡ false
removed_off g a b u v h = elim h [ inl (i, j) ↦ grind (arith, nat_tests) | inr (i, j) ↦ grind (arith, nat_tests) ]

pub removed_kept : (g : Graph) (a b u v : ℕ) → (u ≡ a → v ≡ b → ⊥) → (u ≡ b → v ≡ a → ⊥) → g.linked u v ≡ true → (removed g a b).linked u v ≡ true
removed_kept g a b u v h k e = grind (arith, nat_tests)

removed_more : (g : Graph) (a b : ℕ) → Simple g → g.linked a b ≡ true → OneMore (removed g a b).linked g.linked a b
removed_more g a b s on = record {
  off = removed_off g a b a b (inl (refl, refl));
  off_back = removed_off g a b b a (inr (refl, refl));
  on = on;
  on_back = s.symmetric b a ∙ on;
  same = λ x y e. grind (arith, nat_tests);
}

pub link_count_removed : (g : Graph) (a b : ℕ) → Simple g → (a ≡ b → ⊥) → a < g.size → b < g.size → g.linked a b ≡ true →
    link_count (removed g a b) + 1 ≡ link_count g
link_count_removed g a b s apart i j on = sym (link_count_more g.size (removed g a b).linked g.linked a b i j apart (removed_more g a b s on))

pub degree_removed : (g : Graph) (a b : ℕ) → Simple g → (a ≡ b → ⊥) → a < g.size → b < g.size → g.linked a b ≡ true →
    (x : ℕ) → degree g x ≡ degree (removed g a b) x + cond (eqb a x || eqb b x) 1 0
degree_removed g a b s apart i j on = degree_more g.size (removed g a b).linked g.linked a b i j apart (removed_more g a b s on)

-- ---- no links of one load

pub isolated_simple : (g : Graph) (a : ℕ) → Simple g → Simple (isolated g a)
isolated_simple g a s = record {
  small = s.small;
  loopless = λ u. let e = s.loopless u in grind (arith, nat_tests);
  symmetric = λ u v. let e = s.symmetric u v in grind (arith, nat_tests);
  below = λ u v e. s.below u v (and_parts (g.linked u v) (not (eqb a u || eqb a v)) e).0;
}

pub isolated_kept : (g : Graph) (a u v : ℕ) → (u ≡ a → ⊥) → (v ≡ a → ⊥) → g.linked u v ≡ true → (isolated g a).linked u v ≡ true
isolated_kept g a u v h k e = grind (arith, nat_tests)

pub isolated_old : (g : Graph) (a u v : ℕ) → (isolated g a).linked u v ≡ true → (u ≡ a → ⊥) × (g.linked u v ≡ true)
isolated_old g a u v e =
    let (l, n) = and_parts (g.linked u v) (not (eqb a u || eqb a v)) e in
    let (i, j) = or_parts (eqb a u) (eqb a v) (not-true (eqb a u || eqb a v) n) in
    (λ w. eqb-false a u i (sym w), l)

isolated_degree : (g : Graph) (a : ℕ) → degree (isolated g a) a ≡ 0
isolated_degree g a = count_none g.size ((isolated g a).linked a) (λ v _. grind (arith, nat_tests))

-- another load loses its link with a, if it had one
degree_lost : (g : Graph) (a x : ℕ) → Simple g → a < g.size → (x ≡ a → ⊥) → degree g x ≡ degree (isolated g a) x + cond (g.linked a x) 1 0
degree_lost g a x s below apart =
    let same : degree (isolated g a) x ≡ count g.size (except (g.linked x) a) =
    count_ext g.size ((isolated g a).linked x) (except (g.linked x) a) (λ v _. grind (arith, nat_tests)) in
    elim (cases_Bool (g.linked a x)) [
      | inl on ↦ let lost = count_except g.size (g.linked x) a below (s.symmetric x a ∙ on) in rw on (omega arith)
      | inr off ↦
          let kept = count_ext g.size (except (g.linked x) a) (g.linked x) (λ v _. elim (cases_eq v a) [
            | inl i ↦ let none : g.linked x v ≡ false = cc (s.symmetric x a) in and_left (g.linked x v) (not (eqb v a)) none ∙ sym none
            | inr i ↦ let e = ne_eqb v a i in grind (arith, nat_tests)
          ]) in
          rw off (omega arith)
    ]

-- a loses all its links
pub degree_isolated : (g : Graph) (a x : ℕ) → Simple g → a < g.size →
    degree g x ≡ degree (isolated g a) x + cond (eqb a x) (degree g a) (cond (g.linked a x) 1 0)
degree_isolated g a x s below = elim (cases_eq a x) [
  | inl i ↦ let none = isolated_degree g a in rw (← i, eq-eqb a a refl) (omega arith)
  | inr i ↦ rw (ne_eqb a x i) (degree_lost g a x s below (λ e. i (sym e)))
]

total_at : (n a d : ℕ) → a < n → total n (λ x. cond (eqb a x) d 0) ≡ d
total_at zero a d l = absurd (omega arith)
total_at (suc n) a d l = elim (cases_eq a n) [
  | inl e ↦ let none = total_past n a d (omega arith) in rw (eq-eqb a n e) (omega arith)
  | inr ne ↦ let ih = total_at n a d (omega arith) in rw (ne_eqb a n ne) (omega arith)
]
  where
    total_past : (n a d : ℕ) → n ≤ a → total n (λ x. cond (eqb a x) d 0) ≡ 0
    total_past zero a d l = refl
    total_past (suc n) a d l = let ih = total_past n a d (omega arith) in rw (ne_eqb a n (λ e. omega arith)) (omega arith)

-- a load has as many links as the others lose with it
pub link_count_isolated : (g : Graph) (a : ℕ) → Simple g → a < g.size → link_count (isolated g a) + degree g a ≡ link_count g
link_count_isolated g a s below =
    let n = g.size in
    let rest : ℕ → ℕ = λ x. degree (isolated g a) x + cond (g.linked a x) 1 0 in
    let each : total n (degree g) ≡ total n (λ x. rest x + cond (eqb a x) (degree g a) 0) =
    total_ext n (degree g) (λ x. rest x + cond (eqb a x) (degree g a) 0) (λ x _. elim (cases_eq a x) [
      | inl i ↦ let none = isolated_degree g a in let off = s.loopless a in rw (← i, off, eq-eqb a a refl) (omega arith)
      | inr i ↦ let lost = degree_lost g a x s below (λ e. i (sym e)) in rw (ne_eqb a x i) (omega arith)
    ]) in
    let split = total_plus n rest (λ x. cond (eqb a x) (degree g a) 0) in
    let split_rest = total_plus n (degree (isolated g a)) (λ x. cond (g.linked a x) 1 0) in
    let own = total_at n a (degree g a) below in
    let others = total_count n (g.linked a) in
    let before = handshake g s in
    let after = handshake (isolated g a) (isolated_simple g a s) in
    omega arith
