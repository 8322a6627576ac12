-- The small shapes of augmenting paths, as the tests of their ends that find them.
use Rattle.std.proofs.Common.{◌≡◌, ℕ, Bool, true, false, not, ◌&&◌, eqb, None, sym, refl, ap}
use Rattle.std.proofs.lemmas.Bool.{eqb-false, ne_eqb, and_parts, and_from, not-true, not_from_false}
use Rattle.std.specs.Bool.{then_some}
use Rattle.graph.specs.Graph.{Graph}
use Rattle.graph.specs.Matching.{Partners}
use Rattle.graph.specs.Pairs.{is_free}
use Rattle.graph.proofs.Partners.{none_is, none_free}
use Rattle.audit.specs.Verdicts.{lowest, ends, lowest_end}

module _ (g : Graph) (p : Partners) (a y : ℕ) where
  -- what is tested of an end: it is free, linked to y, and not a
  pub ends_from : (z : ℕ) → g.linked y z ≡ true → p z ≡ None → (a ≡ z → ⊥) → ends g p a y z ≡ true
  ends_from z link free apart =
      and_from (g.linked y z && is_free p z) (not (eqb z a)) (and_from _ _ link (none_free (p z) free)) (not_from_false (eqb z a) (ne_eqb z a (λ e. apart (sym e))))

  pub end_parts : (z : ℕ) → ends g p a y z ≡ true → (g.linked y z ≡ true) × (p z ≡ None) × (a ≡ z → ⊥)
  end_parts z e =
      let halves = and_parts (g.linked y z && is_free p z) (not (eqb z a)) e in
      let first = and_parts (g.linked y z) (is_free p z) halves.0 in
      (first.0, none_is (p z) first.1, λ same. eqb-false z a (not-true (eqb z a) halves.1) (sym same))

  -- the same tests in the order in which the search makes them
  pub ends_tested : lowest g.size (λ z. then_some (g.linked y z && (not (eqb z a) && is_free p z)) z) ≡ lowest_end g p a y
  ends_tested = ap (λ (test : ℕ → Bool). lowest g.size (λ z. then_some (test z) z)) (λ i z. last (g.linked y z) (not (eqb z a)) (is_free p z) i)
    where
      last : (l e r : Bool) → (l && (e && r)) ≡ (l && r && e)
      last false e r = refl
      last true true true = refl
      last true true false = refl
      last true false true = refl
      last true false false = refl
