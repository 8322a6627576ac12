-- Each pair has one lower load.
use Rattle.std.proofs.Common.{◌≡◌, ℕ, ◌*◌, ◌≤◌, true, false, not, ◌&&◌, ltb, Some, sym, ◌∙◌, inl, inr, arith}
use Rattle.std.proofs.lemmas.Bool.{both_ways, and_parts, and_from, not-true, not_from_false, lt-ltb, le-ltb, ltb-true, ltb-false}
use Rattle.graph.specs.Graph.{Graph, Simple, count}
use Rattle.graph.specs.Matching.{Partners, Matching}
use Rattle.graph.specs.Pairs.{has_partner, is_lower}
use Rattle.graph.specs.Approximation.{AtLower}
use Rattle.graph.proofs.Partners.{cases_option, some_is, partner_single, partner_below}
use Rattle.graph.proofs.Paths.{linked_apart}
use Rattle.graph.proofs.Injections.{count_into, count_split, count_below}

module _ (g : Graph) (s : Simple g) (p : Partners) (m : Matching g p) where
  lower_is : (a b : ℕ) → p a ≡ Some b → is_lower p a ≡ ltb a b
  lower_is a b e = cc

  lower_up : count g.size (λ x. has_partner p x && is_lower p x) ≤ count g.size (λ x. has_partner p x && not (is_lower p x))
  lower_up = count_into (λ a b. p a ≡ Some b) g.size g.size (λ x. has_partner p x && is_lower p x) (λ x. has_partner p x && not (is_lower p x))
      (λ a _ h.
      let (h₁, h₂) = and_parts (has_partner p a) (is_lower p a) h in
      let (b, e) = some_is (p a) h₁ in
      let back = m.returned a b e in
      let less = ltb-true a b (sym (lower_is a b e) ∙ h₂) in (
        b,
        partner_below g p m s a b e,
        and_from (has_partner p b) (not (is_lower p b)) (cc)
            (not_from_false (is_lower p b) (lower_is b a back ∙ le-ltb b a (omega arith))),
        e,
      ))
      (partner_single g p m)

  upper_down : count g.size (λ x. has_partner p x && not (is_lower p x)) ≤ count g.size (λ x. has_partner p x && is_lower p x)
  upper_down = count_into (λ a b. p a ≡ Some b) g.size g.size (λ x. has_partner p x && not (is_lower p x)) (λ x. has_partner p x && is_lower p x)
      (λ a _ h.
      let (h₁, h₂) = and_parts (has_partner p a) (not (is_lower p a)) h in
      let (b, e) = some_is (p a) h₁ in
      let back = m.returned a b e in
      let more = ltb-false a b (sym (lower_is a b e) ∙ not-true (is_lower p a) h₂) in
      let other = linked_apart g s a b (m.linked a b e) in
      (b, partner_below g p m s a b e, and_from (has_partner p b) (is_lower p b) (cc) (lower_is b a back ∙ lt-ltb b a (omega arith)), e))
      (partner_single g p m)

  lower_has : (x : ℕ) → is_lower p x ≡ true → has_partner p x ≡ true
  lower_has x h = elim (cases_option (p x)) [ inl e ↦ let none : is_lower p x ≡ false = cc in absurd (both_ways (is_lower p x) none h) | inr (b, e) ↦ (cc) ]

  lower_twice : 2 * count g.size (is_lower p) ≡ count g.size (has_partner p)
  lower_twice =
      let n = g.size in
      let split = count_split n (has_partner p) (is_lower p) in
      let up = lower_up in
      let down = upper_down in
      let part = count_below n (λ x. has_partner p x && is_lower p x) (is_lower p) (λ x _ h. (and_parts (has_partner p x) (is_lower p x) h).1) in
      let whole = count_below n (is_lower p) (λ x. has_partner p x && is_lower p x) (λ x _ h. and_from (has_partner p x) (is_lower p x) (lower_has x h) h) in
      omega arith

  pub at_lower : AtLower g.size p
  at_lower = record { twice = lower_twice; once = omega (arith, lower_twice) }
