-- A load has a partner, or is free.
use Rattle.std.proofs.Common.{◌≡◌, ℕ, ◌<◌, true, false, not, ◌⊎◌, is_some, Some, None, Option, sym, refl, inl, inr}
use Rattle.std.proofs.lemmas.Bool.{both_ways}
use Rattle.std.proofs.lemmas.Option.{none-some}
use Rattle.graph.specs.Graph.{Graph, Simple}
use Rattle.graph.specs.Matching.{Partners, Matching}

pub cases_option : (o : Option ℕ) → (o ≡ None) ⊎ ((b : ℕ) × (o ≡ Some b))
cases_option None = inl refl
cases_option (Some b) = inr (b, refl)

pub none_is : (o : Option ℕ) → not (is_some o) ≡ true → o ≡ None
none_is None h = refl
none_is (Some b) h = absurd (both_ways false refl h)

pub none_free : (o : Option ℕ) → o ≡ None → not (is_some o) ≡ true
none_free None e = refl
none_free (Some b) e = absurd (none-some b (sym e))

pub some_is : (o : Option ℕ) → is_some o ≡ true → (b : ℕ) × (o ≡ Some b)
some_is None h = absurd (both_ways false refl h)
some_is (Some b) h = (b, refl)

module _ (g : Graph) (p : Partners) (m : Matching g p) where
  -- no two loads have the same partner
  pub partner_single : (a a' b : ℕ) → p a ≡ Some b → p a' ≡ Some b → a ≡ a'
  partner_single a a' b e e' = let x = m.returned a b e in let y = m.returned a' b e' in cc

  pub partner_below : Simple g → (a b : ℕ) → p a ≡ Some b → b < g.size
  partner_below s a b e = s.below b a (m.linked b a (m.returned a b e))
