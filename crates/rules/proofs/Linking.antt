-- A link more: what the repair of its two loads finds, and leaves.
use Rattle.std.proofs.Common.{◌≡◌, ℕ, ◌*◌, ◌<◌, ◌≤◌, true, ltb, ◌⊎◌, List, [], ◌∷◌, sym, ◌∙◌, inl, inr}
use Rattle.std.proofs.lemmas.Bool.{cases_Bool, cases_eq, or_left}
use Rattle.graph.specs.Graph.{Graph, Simple, link_count, is_pair, added}
use Rattle.graph.specs.Matching.{Partners}
use Rattle.graph.proofs.Changes.{added_simple, added_apart, added_apart_back}
use Rattle.graph.proofs.Counts.{count_ext}
use Rattle.rules.specs.Calls.{in_order}
use Rattle.rules.specs.Health.{Healthy}
use Rattle.rules.specs.Repair.{Ranking, repair}
use Rattle.rules.proofs.Phases.{MatchPhase, AugmentPhase}
use Rattle.rules.proofs.Repair.{Outside, healthy_done, repair_healthy}

pub in_order_outside : (a b u : ℕ) → Outside (in_order a b) u → (u ≡ a → ⊥) × (u ≡ b → ⊥)
in_order_outside a b u o = elim (cases_Bool (ltb a b)) [
  | inl e ↦ let w : Outside (a ∷ b ∷ []) u = rw e at o in (w.0, w.1.0)
  | inr e ↦ let w : Outside (b ∷ a ∷ []) u = rw e at o in (w.1.0, w.0)
]

pub in_order_inside : (a b u : ℕ) → (Outside (in_order a b) u → ⊥) → (u ≡ a) ⊎ (u ≡ b)
in_order_inside a b u o = elim (cases_eq u a) [
  | inl i ↦ inl i
  | inr i ↦ elim (cases_eq u b) [
    | inl j ↦ inr j
    | inr j ↦ absurd (elim (cases_Bool (ltb a b)) [
      | inl e ↦ let w : Outside (a ∷ b ∷ []) u → ⊥ = rw e at o in w (i, (j, tt))
      | inr e ↦ let w : Outside (b ∷ a ∷ []) u → ⊥ = rw e at o in w (j, (i, tt))
    ])
  ]
]

-- the loads besides a and b have the links that they had
pub added_phase : (g : Graph) (t a b : ℕ) (p : Partners) → AugmentPhase g t (Outside []) p → (l : List ℕ) →
    ((u : ℕ) → Outside l u → (u ≡ a → ⊥) × (u ≡ b → ⊥)) → MatchPhase (added g a b) t (Outside l) (Outside l) p
added_phase g t a b p k l outside =
    let old : (u v : ℕ) → Outside l u → (added g a b).linked u v ≡ true → g.linked u v ≡ true = λ u v i e. let (h₁, h₂) = outside u i in sym (added_apart g a b u v h₁ h₂) ∙ e in
    let old-back : (u v : ℕ) → Outside l v → (added g a b).linked u v ≡ true → g.linked u v ≡ true = λ u v i e. let (h₁, h₂) = outside v i in sym (added_apart_back g a b u v h₁ h₂) ∙ e in
    record {
      matching = record { returned = k.matching.returned; linked = λ u v e. or_left (g.linked u v) (is_pair a b u v) (k.matching.linked u v e) };
      maximal = λ u v i j n₁ n₂ e. k.maximal u v n₁ n₂ (old u v i e);
      no_free_walk = λ u v w e i j n₁ l₁ n₂ l₂ n₃ l₃ n₄. absurd (k.maximal u v n₁ n₂ (old u v i l₁));
      no_walk = λ u v w e i j n₁ l₁ m l₂ n₂. k.no_walk u v w e tt tt n₁ (old u v i l₁) m (old-back w e j l₂) n₂;
      light = λ u i n. let (h₁, h₂) = outside u i in
          rw (count_ext g.size ((added g a b).linked u) (g.linked u) (λ v _. added_apart g a b u v h₁ h₂)) (k.light u tt n);
    }

pub link_healthy : (before : Ranking) (g : Graph) (t a b : ℕ) (p : Partners) → Simple g → (a ≡ b → ⊥) → a < g.size → b < g.size →
    2 * link_count (added g a b) ≤ t * t → Healthy g t p → Healthy (added g a b) t (repair before t (added g a b) (in_order a b) p)
link_healthy before g t a b p s apart i j few k =
    repair_healthy before (added g a b) (added_simple g a b s apart i j) t few (in_order a b) p
    (added_phase g t a b p (healthy_done g s t p k) (in_order a b) (in_order_outside a b))
