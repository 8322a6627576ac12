-- What holds during the two phases of a repair.
use Rattle.std.proofs.Common.{◌≡◌, ℕ, ◌≤◌, true, ◌⊎◌, Some, None, sym, ◌∙◌, inl, inr}
use Rattle.std.proofs.lemmas.Bool.{cases_eq}
use Rattle.graph.specs.Graph.{Graph, Simple, degree}
use Rattle.graph.specs.Matching.{Partners, Free, Matching}
use Rattle.graph.specs.Short.{Maximal, NoWalkFrom}
use Rattle.graph.proofs.Paths.{free_taken}

-- no walk over a pair leads from a free load of D to another free load of D
abbrev pub NoWalkAmong : Graph → Partners → (ℕ → Type 0) → Type 0
NoWalkAmong g p D = (a x y z : ℕ) → D a → D z → Free p a → g.linked a x ≡ true → p x ≡ Some y → g.linked y z ≡ true → Free p z → z ≡ a

-- in the first phase, with F the loads that were tried and D the loads outside the set under repair: linked free loads
-- only outside of F, and no walk over four free loads between two loads of D, so that no new pair makes a path between them
pub record MatchPhase (g : Graph) (t : ℕ) (F D : ℕ → Type 0) (p : Partners) : Type 0 where
  pub matching : Matching g p
  pub maximal : (u v : ℕ) → F u → F v → Free p u → Free p v → g.linked u v ≡ true → ⊥
  pub no_free_walk : (u v w e : ℕ) → D u → D e → Free p u → g.linked u v ≡ true → Free p v → g.linked v w ≡ true → Free p w → g.linked w e ≡ true → Free p e → e ≡ u
  pub no_walk : NoWalkAmong g p D
  pub light : (a : ℕ) → D a → Free p a → degree g a ≤ t

-- in the second phase, with D the loads that are done: healthy but for the loads that are not
pub record AugmentPhase (g : Graph) (t : ℕ) (D : ℕ → Type 0) (p : Partners) : Type 0 where
  pub matching : Matching g p
  pub maximal : Maximal g p
  pub no_walk : NoWalkAmong g p D
  pub light : (a : ℕ) → D a → Free p a → degree g a ≤ t

-- the loads of D other than a
abbrev pub but : ℕ → (ℕ → Type 0) → ℕ → Type 0
but a D u = (u ≡ a → ⊥) × D u

pub fewer_done : (g : Graph) (t : ℕ) (D E : ℕ → Type 0) (p : Partners) → ((u : ℕ) → E u → D u) → AugmentPhase g t D p → AugmentPhase g t E p
fewer_done g t D E p h k = record {
  matching = k.matching;
  maximal = k.maximal;
  no_walk = λ u v w e i j. k.no_walk u v w e (h u i) (h e j);
  light = λ u i. k.light u (h u i);
}

-- a load that has a partner is done
pub taken_more : (g : Graph) (t : ℕ) (D : ℕ → Type 0) (p : Partners) (a b : ℕ) → AugmentPhase g t (but a D) p → p a ≡ Some b → AugmentPhase g t D p
taken_more g t D p a b k e =
    let apart : (u : ℕ) → p u ≡ None → u ≡ a → ⊥ = λ u n i. free_taken (p u) b n (cc) in
    record {
      matching = k.matching;
      maximal = k.maximal;
      no_walk = λ u v w z d₁ d₂ n₁ l₁ m l₂ n₂. k.no_walk u v w z (apart u n₁, d₁) (apart z n₂, d₂) n₁ l₁ m l₂ n₂;
      light = λ u d n. k.light u (apart u n, d) n;
    }

-- so is a light load from which no walk leads to another free load
pub light_more : (g : Graph) → Simple g → (t : ℕ) (D : ℕ → Type 0) (p : Partners) (a : ℕ) → AugmentPhase g t (but a D) p →
    NoWalkFrom g p a → degree g a ≤ t → AugmentPhase g t D p
light_more g s t D p a k none small = record {
  matching = k.matching;
  maximal = k.maximal;
  no_walk = λ u v w e d₁ d₂ n₁ l₁ m l₂ n₂. elim (cases_eq u a) [
    | inl i ↦ none v w e (rw i at l₁) m l₂ n₂ ∙ sym i
    | inr i ↦ elim (cases_eq e a) [
      | inl j ↦ j ∙ sym (none w v u (cc (s.symmetric w e)) (k.matching.returned v w m) (cc (s.symmetric u v)) n₁)
      | inr j ↦ k.no_walk u v w e (i, d₁) (j, d₂) n₁ l₁ m l₂ n₂
    ]
  ];
  light = λ u d n. elim (cases_eq u a) [ inl i ↦ rw i small | inr i ↦ k.light u (i, d) n ];
}

-- Other partners, of which each new pair has an end that was free: since no two free loads are linked, no walk goes over it.
pub changed_phase : (g : Graph) (t : ℕ) (D E : ℕ → Type 0) (p q : Partners) → AugmentPhase g t E p → Matching g q → Maximal g q →
    ((u : ℕ) → D u → q u ≡ None → E u × (p u ≡ None)) →
    ((v w : ℕ) → q v ≡ Some w → (p v ≡ Some w) ⊎ ((p v ≡ None) ⊎ (p w ≡ None))) → AugmentPhase g t D q
changed_phase g t D E p q k matching maximal was_free pair = record {
  matching = matching;
  maximal = maximal;
  no_walk = λ u v w e d₁ d₂ n₁ l₁ m l₂ n₂.
      let (i, o₁) = was_free u d₁ n₁ in let (j, o₂) = was_free e d₂ n₂ in
      elim (pair v w m) [
        | inl old ↦ k.no_walk u v w e i j o₁ l₁ old l₂ o₂
        | inr new ↦ elim new [ inl free-v ↦ absurd (k.maximal u v o₁ free-v l₁) | inr free-w ↦ absurd (k.maximal w e free-w o₂ l₂) ]
      ];
  light = λ u d n. let (i, o) = was_free u d n in k.light u i o;
}
