-- Opening repairs all loads, so it leaves a healthy matching.
use Rattle.std.proofs.Common.{◌≡◌, ℕ, zero, suc, ◌*◌, ◌≤◌, true, List, [], ◌∷◌, None, refl, inl, inr, arith}
use Rattle.std.proofs.lemmas.Bool.{cases_Bool}
use Rattle.graph.specs.Graph.{Graph, Simple, link_count}
use Rattle.graph.proofs.Counts.{count_none}
use Rattle.graph.proofs.Paths.{free_taken}
use Rattle.rules.specs.Calls.{up_to}
use Rattle.rules.specs.Health.{Healthy}
use Rattle.rules.specs.Repair.{Ranking, repair}
use Rattle.rules.proofs.Repair.{Outside, repair_healthy}

up_to_outside : (n : ℕ) (l : List ℕ) (u : ℕ) → Outside (up_to n l) u → (n ≤ u) × Outside l u
up_to_outside zero l u o = (omega arith, o)
up_to_outside (suc n) l u o = let (h, k) = up_to_outside n (n ∷ l) u o in let i = k.0 in (omega arith, k.1)

pub opening_healthy : (before : Ranking) (g : Graph) (t : ℕ) → Simple g → 2 * link_count g ≤ t * t →
    Healthy g t (repair before t g (up_to g.size []) (λ _. None))
opening_healthy before g t s few =
    let l = up_to g.size [] in
    let past : (u v : ℕ) → Outside l u → g.linked u v ≡ true → ⊥ = λ u v o e. omega (arith, s.below u v e, (up_to_outside g.size [] u o).0) in
    repair_healthy before g s t few l (λ _. None) (record {
      matching = record { returned = λ u v e. absurd (free_taken None v refl e); linked = λ u v e. absurd (free_taken None v refl e) };
      maximal = λ u v i j _ _ e. past u v i e;
      no_free_walk = λ u v w e i j _ on _ _ _ _ _. absurd (past u v i on);
      no_walk = λ u v w e i j _ on _ _ _. absurd (past u v i on);
      light = λ u i _. let none = count_none g.size (g.linked u) (λ v _. elim (cases_Bool (g.linked u v)) [ inl on ↦ absurd (past u v i on) | inr off ↦ off ]) in omega arith;
    })
