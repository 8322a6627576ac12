-- A repair leaves a healthy matching.
use Rattle.std.proofs.Common.{◌≡◌, ℕ, ◌*◌, ◌≤◌, ◌⊎◌, List, [], ◌∷◌, inl, inr, arith}
use Rattle.std.proofs.lemmas.Bool.{cases_Bool, cases_eq, cases_lt}
use Rattle.graph.specs.Graph.{Graph, Simple, degree, link_count}
use Rattle.graph.specs.Matching.{Partners}
use Rattle.graph.proofs.Counts.{count_none}
use Rattle.graph.proofs.Short.{short_paths}
use Rattle.rules.specs.Health.{Healthy}
use Rattle.rules.specs.Repair.{Ranking, each, match_free, improve, repair}
use Rattle.rules.proofs.Improve.{improve_more}
use Rattle.rules.proofs.MatchFree.{match_more}
use Rattle.rules.proofs.Phases.{MatchPhase, AugmentPhase, but}

-- the numbers that are not in the list
abbrev pub Outside : List ℕ → ℕ → Type 0
Outside [] = λ _. Unit {0}
Outside (a ∷ l) = but a (Outside l)

pub cases_outside : (l : List ℕ) (u : ℕ) → Outside l u ⊎ (Outside l u → ⊥)
cases_outside [] u = inl tt
cases_outside (a ∷ l) u = elim (cases_eq u a) [
  | inl i ↦ inr (λ o. o.0 i)
  | inr i ↦
      elim (cases_outside l u) [ inl o ↦ inl (i, o) | inr o ↦ inr (λ w. o w.1) ]
]

-- where every load is done, the matching is healthy
pub all_done : (g : Graph) → Simple g → (t : ℕ) (p : Partners) → AugmentPhase g t (Outside []) p → Healthy g t p
all_done g s t p k =
    let short = short_paths g s p k.matching in
    record {
      matching = k.matching;
      no_path_of_one = short.no_one k.maximal;
      no_path_of_three = short.no_three (λ a n x y z l e m f. k.no_walk a x y z tt tt n l e m f);
      light = λ a _. k.light a tt;
    }

pub past_degree : (g : Graph) → Simple g → (a : ℕ) → g.size ≤ a → degree g a ≡ 0
past_degree g s a past = count_none g.size (g.linked a) (λ b _. elim (cases_Bool (g.linked a b))
    [ inl on ↦ absurd (omega (arith, s.below a b on)) | inr off ↦ off ])

pub healthy_done : (g : Graph) → Simple g → (t : ℕ) (p : Partners) → Healthy g t p → AugmentPhase g t (Outside []) p
healthy_done g s t p k =
    let short = short_paths g s p k.matching in
    record {
      matching = k.matching;
      maximal = short.maximal k.no_path_of_one;
      no_walk = λ a x y z _ _ n l e m f. short.no_walk k.no_path_of_three a n x y z l e m f;
      light = λ a _ n. elim (cases_lt a g.size) [ inl below ↦ k.light a below n | inr past ↦ omega (arith, past_degree g s a past) ];
    }

pub matched_phase : (g : Graph) (t : ℕ) (D : ℕ → Type 0) (p : Partners) → MatchPhase g t (Outside []) D p → AugmentPhase g t D p
matched_phase g t D p k = record { matching = k.matching; maximal = λ u v. k.maximal u v tt tt; no_walk = k.no_walk; light = k.light }

module _ (before : Ranking) (g : Graph) (s : Simple g) (t : ℕ) where
  pub match_all : (l : List ℕ) (D : ℕ → Type 0) (p : Partners) → MatchPhase g t (Outside l) D p → MatchPhase g t (Outside []) D (each (match_free before g) l p)
  match_all [] D p k = k
  match_all (a ∷ l) D p k = match_all l D (match_free before g a p) (match_more before g s t (Outside l) D p a k)

  module _ (few : 2 * link_count g ≤ t * t) where
    improve_all : (l : List ℕ) (p : Partners) → AugmentPhase g t (Outside l) p → AugmentPhase g t (Outside []) (each (improve before t g) l p)
    improve_all [] p k = k
    improve_all (a ∷ l) p k = improve_all l (improve before t g a p) (improve_more before g s t few (Outside l) p a k)

    pub repair_healthy : (l : List ℕ) (p : Partners) → MatchPhase g t (Outside l) (Outside l) p → Healthy g t (repair before t g l p)
    repair_healthy l p k =
        let q = each (match_free before g) l p in
        all_done g s t (repair before t g l p) (improve_all l q (matched_phase g t (Outside l) q (match_all l (Outside l) p k)))
