-- The first phase: what matching a free load with a free one keeps.
use Rattle.std.proofs.Common.{◌≡◌, ℕ, true, ◌⊎◌, sym, ◌∙◌, subst, inl, inr}
use Rattle.std.proofs.lemmas.Bool.{cases_eq, both_ways, and_parts, and_from}
use Rattle.graph.specs.Graph.{Graph, Simple}
use Rattle.graph.specs.Matching.{Partners, Free}
use Rattle.graph.specs.Pairs.{is_free}
use Rattle.graph.proofs.Partners.{cases_option, none_is}
use Rattle.graph.proofs.Paths.{free_taken, linked_apart}
use Rattle.rules.specs.First.{first}
use Rattle.rules.specs.Repair.{Ranking, paired, free_link, match_free}
use Rattle.rules.proofs.First.{first_found, first_none}
use Rattle.rules.proofs.Phases.{MatchPhase, but}
use Rattle.rules.proofs.Updates.{paired_some, paired_free, paired_matching, forth, back, old}

-- a free load that two loads of the set can reach only over each other is matched
pub paired_more : (g : Graph) → Simple g → (t : ℕ) (F D : ℕ → Type 0) (p : Partners) (a b : ℕ) → MatchPhase g t (but a F) D p →
    Free p a → g.linked a b ≡ true → Free p b → MatchPhase g t F D (paired a b p)
paired_more g s t F D p a b k free-a link free-b =
    let apart = linked_apart g s a b link in
    let was = paired_free a b p apart in
    record {
      matching = paired_matching g s p k.matching a b free-a free-b link;
      maximal = λ u v f₁ f₂ n₁ n₂ l. let (i, _, m₁) = was u n₁ in let (j, _, m₂) = was v n₂ in k.maximal u v (i, f₁) (j, f₂) m₁ m₂ l;
      no_free_walk = λ u v w e d₁ d₂ n₁ l₁ n₂ l₂ n₃ l₃ n₄. k.no_free_walk u v w e d₁ d₂ (was u n₁).2 l₁ (was v n₂).2 l₂ (was w n₃).2 l₃ (was e n₄).2;
      no_walk = λ u v w e d₁ d₂ n₁ l₁ m l₂ n₂.
          let (_, _, o₁) = was u n₁ in let (_, _, o₂) = was e n₂ in
          elim (paired_some a b p apart v w m) [
            | forth i j ↦ k.no_free_walk u v w e d₁ d₂ o₁ l₁ (cc) (cc) (cc) l₂ o₂
            | back i j ↦ k.no_free_walk u v w e d₁ d₂ o₁ l₁ (cc) (cc (s.symmetric a b)) (cc) l₂ o₂
            | old i j o ↦ k.no_walk u v w e d₁ d₂ o₁ l₁ o l₂ o₂
          ];
      light = λ u d n. let (_, _, o) = was u n in k.light u d o;
    }

-- a load that has a partner, or is linked to no free load, has been tried
unpaired_more : (g : Graph) → Simple g → (t : ℕ) (F D : ℕ → Type 0) (p : Partners) (a : ℕ) → MatchPhase g t (but a F) D p →
    ((v : ℕ) → Free p a → Free p v → g.linked a v ≡ true → ⊥) → MatchPhase g t F D p
unpaired_more g s t F D p a k none = record {
  matching = k.matching;
  maximal = λ u v f₁ f₂ n₁ n₂ l. elim (cases_eq u a) [
    | inl i ↦ none v (cc) n₂ (rw i at l)
    | inr i ↦ elim (cases_eq v a) [ inl j ↦ none u (cc) n₁ (cc (s.symmetric u v)) | inr j ↦ k.maximal u v (i, f₁) (j, f₂) n₁ n₂ l ]
  ];
  no_free_walk = k.no_free_walk;
  no_walk = k.no_walk;
  light = k.light;
}

module _ (before : Ranking) (g : Graph) (s : Simple g) where
  -- matching a leaves the partners as they are, or pairs a with a free load
  pub match_cases : (p : Partners) (a : ℕ) →
      ((match_free before g a p ≡ p) × ((v : ℕ) → Free p a → Free p v → g.linked a v ≡ true → ⊥)) ⊎
      ((b : ℕ) × Free p a × Free p b × (g.linked a b ≡ true) × (match_free before g a p ≡ paired a b p))
  match_cases p a = elim (cases_option (p a)) [
    | inr (b, e) ↦ inl ((cc), (λ v n _ _. free_taken (p a) b n e))
    | inl free-a ↦ elim (cases_option (first (before a) g.size (free_link g p a))) [
      | inl o ↦ inl (
        (cc),
        (λ v _ n l.
            let lost = first_none (before a) g.size (free_link g p a) o v (s.below v a (s.symmetric v a ∙ l)) in
            both_ways (free_link g p a v) lost (and_from (g.linked a v) (is_free p v) l (cc))),
      )
      | inr (b, o) ↦
          let f = first_found (before a) g.size (free_link g p a) b o in
          let (l, m) = and_parts (g.linked a b) (is_free p b) f.passes in
          inr (b, free-a, none_is (p b) m, l, cc)
    ]
  ]

  pub match_more : (t : ℕ) (F D : ℕ → Type 0) (p : Partners) (a : ℕ) → MatchPhase g t (but a F) D p → MatchPhase g t F D (match_free before g a p)
  match_more t F D p a k = elim (match_cases p a) [
    | inl (same, none) ↦ subst (MatchPhase g t F D) (sym same) (unpaired_more g s t F D p a k none)
    | inr (b, free-a, free-b, link, same) ↦ subst (MatchPhase g t F D) (sym same) (paired_more g s t F D p a b k free-a link free-b)
  ]
