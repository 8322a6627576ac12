-- The first augmenting path of three links is there if one begins.
use Rattle.std.proofs.Common.{◌≡◌, ℕ, true, not, eqb, Some, None, ◌∙◌}
use Rattle.std.proofs.lemmas.Bool.{and_from, both_ways, ne_eqb, not_from_false}
use Rattle.graph.specs.Graph.{Graph, Simple}
use Rattle.graph.specs.Matching.{Partners}
use Rattle.graph.specs.Pairs.{is_free}
use Rattle.graph.proofs.Paths.{free_taken}
use Rattle.rules.specs.First.{first}
use Rattle.rules.specs.Repair.{Ranking, free_link, ends_path, path_start_of}
use Rattle.rules.proofs.First.{first_none}
use Rattle.rules.proofs.Improve.{taken_path}

module _ (before : Ranking) (g : Graph) (s : Simple g) (p : Partners) (a x : ℕ) (start : path_start_of before g p a ≡ Some x) where
  pub start_paired : p x ≡ None → ⊥
  start_paired none = let (y, z, w) = taken_path before g s p a x start in free_taken (p x) y none w.pair_x

  pub start_ends : (y : ℕ) → p x ≡ Some y → first (before y) g.size (ends_path g p a (Some y)) ≡ None → ⊥
  start_ends y pair none =
      let (y', z, w) = taken_path before g s p a x start in
      let same : y' ≡ y = cc in
      let link : g.linked y z ≡ true = cc in
      let lost = first_none (before y) g.size (ends_path g p a (Some y)) none z (s.below z y (s.symmetric z y ∙ link)) in
      both_ways (ends_path g p a (Some y) z) lost
      (and_from (free_link g p y z) (not (eqb z a)) (and_from (g.linked y z) (is_free p z) link (cc)) (not_from_false (eqb z a) (ne_eqb z a w.apart)))
