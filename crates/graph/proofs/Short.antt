-- The augmenting paths of one and three links, and the loads on them.
use Rattle.std.proofs.Common.{[], ◌∷◌, sym, inl, inr}
use Rattle.std.proofs.lemmas.Bool.{cases_eq}
use Rattle.graph.specs.Graph.{Graph, Simple}
use Rattle.graph.specs.Matching.{Partners, Matching}
use Rattle.graph.specs.Approximation.{ShortPaths}
use Rattle.graph.proofs.Paths.{of_one, of_three}

pub short_paths : (g : Graph) → Simple g → (p : Partners) → Matching g p → ShortPaths g p
short_paths g s p m = record {
  maximal = λ none a b free-a free-b link. none (a ∷ b ∷ []) ((of_one g s p).path a b (record { begins = free-a; link = link; ends = free-b }));
  no_one = λ maximal path h. let (a, b, _, link) = (of_one g s p).shape path h in maximal a b link.begins link.ends link.link;
  no_walk = λ none a free-a x y z first pair last free_z. elim (cases_eq z a) [
    | inl same ↦ same
    | inr apart ↦ absurd (none (a ∷ x ∷ y ∷ z ∷ []) ((of_three g s p m).path a x y z
        (record { begins = free-a; first = first; pair = pair; last = last; ends = free_z; apart = λ e. apart (sym e) })))
  ];
  no_three = λ no_walk path h. let (a, x, y, z, _, walk) = (of_three g s p m).shape path h in
      walk.apart (sym (no_walk a walk.begins x y z walk.first walk.pair walk.last walk.ends));
}
