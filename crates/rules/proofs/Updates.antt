-- What pairing and freeing loads does to the partners.
use Rattle.std.proofs.Common.{◌≡◌, ℕ, true, ◌⊎◌, Some, None, sym, ◌∙◌, inl, inr, arith}
use Rattle.std.proofs.lemmas.Bool.{cases_eq}
use Rattle.std.proofs.lemmas.Bool.Decides.{nat_tests}
use Rattle.graph.specs.Graph.{Graph, Simple}
use Rattle.graph.specs.Matching.{Partners, Matching}
use Rattle.graph.proofs.Paths.{free_taken, free_apart, linked_apart}
use Rattle.rules.specs.Repair.{paired, freed}

-- ---- two loads become partners

pub paired_left : (a b : ℕ) (p : Partners) → paired a b p a ≡ Some b
paired_left a b p = grind (arith, nat_tests)

pub paired_right : (a b : ℕ) (p : Partners) → (a ≡ b → ⊥) → paired a b p b ≡ Some a
paired_right a b p apart = grind (arith, nat_tests)

pub paired_other : (a b : ℕ) (p : Partners) (w : ℕ) → (w ≡ a → ⊥) → (w ≡ b → ⊥) → paired a b p w ≡ p w
paired_other a b p w not_a not-b = grind (arith, nat_tests)

-- v and w are the new pair, or one from before
pub data Pair (p : Partners) (a b v w : ℕ) : Type 0 where
  forth : v ≡ a → w ≡ b → Pair p a b v w
  back : v ≡ b → w ≡ a → Pair p a b v w
  old : (v ≡ a → ⊥) → (v ≡ b → ⊥) → p v ≡ Some w → Pair p a b v w

pub paired_some : (a b : ℕ) (p : Partners) → (a ≡ b → ⊥) → (v w : ℕ) → paired a b p v ≡ Some w → Pair p a b v w
paired_some a b p apart v w e =
    let left = paired_left a b p in
    let right = paired_right a b p apart in
    elim (cases_eq v a) [
      | inl i ↦ forth i (cc)
      | inr i ↦
          elim (cases_eq v b) [ inl j ↦ back j (cc) | inr j ↦ old i j (sym (paired_other a b p v i j) ∙ e) ]
    ]

pub paired_free : (a b : ℕ) (p : Partners) → (a ≡ b → ⊥) → (u : ℕ) → paired a b p u ≡ None → (u ≡ a → ⊥) × (u ≡ b → ⊥) × (p u ≡ None)
paired_free a b p apart u e =
    let not_a : u ≡ a → ⊥ = λ i. free_taken (paired a b p u) b e (cc (paired_left a b p)) in
    let not-b : u ≡ b → ⊥ = λ i. free_taken (paired a b p u) a e (cc (paired_right a b p apart)) in
    (not_a, not-b, sym (paired_other a b p u not_a not-b) ∙ e)

pub paired_matching : (g : Graph) → Simple g → (p : Partners) → Matching g p → (a b : ℕ) → p a ≡ None → p b ≡ None → g.linked a b ≡ true →
    Matching g (paired a b p)
paired_matching g s p m a b free-a free-b link =
    let apart = linked_apart g s a b link in
    record {
      returned = λ v w e. elim (paired_some a b p apart v w e) [
        | forth i j ↦ cc (paired_right a b p apart)
        | back i j ↦ cc (paired_left a b p)
        | old i j o ↦
            let home = m.returned v w o in
            paired_other a b p w (λ h. free_apart p a w v free-a home (sym h)) (λ h. free_apart p b w v free-b home (sym h)) ∙ home
      ];
      linked = λ v w e. elim (paired_some a b p apart v w e)
          [ forth i j ↦ cc | back i j ↦ cc (s.symmetric a b) | old i j o ↦ m.linked v w o ];
    }

-- ---- two loads become free

pub freed_two : (a b : ℕ) (p : Partners) (u : ℕ) → ((u ≡ a) ⊎ (u ≡ b)) → freed a (freed b p) u ≡ None
freed_two a b p u h = grind (arith, nat_tests)

pub freed_other : (a b : ℕ) (p : Partners) (u : ℕ) → (u ≡ a → ⊥) → (u ≡ b → ⊥) → freed a (freed b p) u ≡ p u
freed_other a b p u not_a not-b = grind (arith, nat_tests)

-- a load that is free now is one of the two, or was free
pub freed_free : (a b : ℕ) (p : Partners) (u : ℕ) → freed a (freed b p) u ≡ None → (u ≡ a) ⊎ ((u ≡ b) ⊎ (p u ≡ None))
freed_free a b p u e = elim (cases_eq u a) [
  | inl i ↦ inl i
  | inr i ↦
      elim (cases_eq u b) [ inl j ↦ inr (inl j) | inr j ↦ inr (inr (sym (freed_other a b p u i j) ∙ e)) ]
]

-- the two were partners: the pair of v and w is another
pub record OtherPair (a b : ℕ) (p : Partners) (v w : ℕ) : Type 0 where
  pub v_not_a : v ≡ a → ⊥
  pub v_not_b : v ≡ b → ⊥
  pub w_not_a : w ≡ a → ⊥
  pub w_not_b : w ≡ b → ⊥
  pub was : p v ≡ Some w
  pub home : freed a (freed b p) w ≡ Some v

pub freed_some : (g : Graph) (p : Partners) → Matching g p → (a b : ℕ) → p a ≡ Some b → (v w : ℕ) → freed a (freed b p) v ≡ Some w → OtherPair a b p v w
freed_some g p m a b pair v w e =
    let turned = m.returned a b pair in
    let i : v ≡ a → ⊥ = λ h. free_taken (freed a (freed b p) v) w (freed_two a b p v (inl h)) e in
    let j : v ≡ b → ⊥ = λ h. free_taken (freed a (freed b p) v) w (freed_two a b p v (inr h)) e in
    let was : p v ≡ Some w = sym (freed_other a b p v i j) ∙ e in
    let home = m.returned v w was in
    let i' : w ≡ a → ⊥ = λ h. j (cc) in
    let j' : w ≡ b → ⊥ = λ h. i (cc) in
    record { v_not_a = i; v_not_b = j; w_not_a = i'; w_not_b = j'; was = was; home = freed_other a b p w i' j' ∙ home }

pub freed_matching : (g : Graph) (p : Partners) → Matching g p → (a b : ℕ) → p a ≡ Some b → Matching g (freed a (freed b p))
freed_matching g p m a b pair = record {
  returned = λ v w e. (freed_some g p m a b pair v w e).home;
  linked = λ v w e. m.linked v w (freed_some g p m a b pair v w e).was;
}

-- ---- the changes of augmenting and displacing, as freeing and pairing

pub exchange_is : (a x y z : ℕ) (p : Partners) → paired y z (paired a x p) ≡ paired y z (paired a x (freed x (freed y p)))
exchange_is a x y z p = λ i w. same w i
  where
    same : (w : ℕ) → paired y z (paired a x p) w ≡ paired y z (paired a x (freed x (freed y p))) w
    same w = grind (arith, nat_tests)

pub displace_is : (a x y : ℕ) (p : Partners) → (a ≡ y → ⊥) → (x ≡ y → ⊥) → freed y (paired a x p) ≡ paired a x (freed x (freed y p))
displace_is a x y p a≢y x≢y = λ i w. same w i
  where
    same : (w : ℕ) → freed y (paired a x p) w ≡ paired a x (freed x (freed y p)) w
    same w = grind (arith, nat_tests)
