-- Small steps one after another.
use Rattle.std.proofs.Common.{◌≡◌, ℕ, ◌<◌, ◌≤◌, Bool, true, false, cond, ◌&&◌, eqb, ◌⊎◌, sym, refl, ap, ◌∙◌, subst, inl, inr, arith}
use mathlib.Core.Path.{fun_ext}
use Rattle.std.proofs.lemmas.Bool.{and_right}
use Rattle.graph.specs.Graph.{Graph, Simple, First}
use Rattle.tables.specs.declared.Tables.{Tables}
use Rattle.tables.specs.Steps.{stepped, Stepped}

-- the same loads, told by another test
pub steps_like : {on : Bool} {linked p q : ℕ → Bool} {b : ℕ} {s t : Tables} → ((y : ℕ) → p y ≡ q y) → Stepped on linked p b s t → Stepped on linked q b s t
steps_like {on} {linked} {p} {q} {b} {s} {t} same h = subst (λ (test : ℕ → Bool). Stepped on linked test b s t) (fun_ext same) h

-- ---- a link counted, and told where its other end is free

pub and_on : (x y : Bool) → y ≡ true → (x && y) ≡ x
and_on true y e = e
and_on false y e = refl

module _ (on : Bool) (a b : ℕ) (free : Bool) (s u : Tables) (count : Stepped on (eqb a) (λ _. false) b s u) where
  pub counted_told : {t : Tables} → free ≡ true → Stepped on (λ _. false) (eqb a) b u t → Stepped on (eqb a) (λ y. eqb a y && free) b s t
  counted_told {t} e tell = steps_like (λ y. sym (and_on (eqb a y) free e)) (record {
    partners = λ y. tell.partners y ∙ count.partners y;
    degrees = λ y. tell.degrees y ∙ count.degrees y;
    counts = λ y. tell.counts y ∙ ap (λ (n : ℕ). cond (eqb a y) (stepped on n) n) (count.counts y);
    sets = λ y z. tell.sets y z ∙ ap (cond (eqb a y && eqb b z) on) (count.sets y z);
  })

  pub counted_only : free ≡ false → Stepped on (eqb a) (λ y. eqb a y && free) b s u
  counted_only e = steps_like (λ y. sym (and_right (eqb a y) free e)) count

-- what is linked stands below the size
pub in_range : (g : Graph) (a from x : ℕ) → Simple g → First (g.linked a) from x → (x < from) ⊎ (256 ≤ x) → ⊥
in_range g a from x s n (inl h) = omega (arith, n.past)
in_range g a from x s n (inr h) = omega (arith, s.small, s.below x a (s.symmetric x a ∙ n.hit))
