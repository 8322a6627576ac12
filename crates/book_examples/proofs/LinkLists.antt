-- What answers about links tell where the links are known.
use Rattle.std.proofs.Common.{◌≡◌, ℕ, ◌≤◌, Bool, false, List, Some, None, Ok, Err, Option, Result, refl, ap, subst, ⊎_elim, arith}
use Rattle.std.proofs.lemmas.Bool.{both_ways, cases_order}
use Rattle.graph.specs.Graph.{Graph, First, Next}
use Rattle.links.specs.declared.refusal.Refused.{Refused}
use Rattle.links.specs.Refusals.{Answers}
use Rattle.audit.specs.declared.Verdict.{Verdict}
use Rattle.audit.specs.declared.Verdict.TheVariants.{Sound, NotReturned, NotLinked, PathOfOne, PathOfThree}
use Rattle.audit.specs.Verdicts.{meaning}

first_single : (test : ℕ → Bool) (from j k : ℕ) → First test from j → First test from k → j ≡ k
first_single test from j k f t =
    ⊎_elim
    (λ same. same)
    (λ apart. ⊎_elim
    (λ l. absurd (both_ways (test j) (t.before j f.past l) f.hit))
    (λ l. absurd (both_ways (test k) (f.before k t.past l) t.hit))
    apart)
    (cases_order j k)

module _ (g h : Graph) (same : g ≡ h) (a from : ℕ) where
  pub next_is : (r : Option ℕ) (k : ℕ) → Next (g.linked a) from r → First (h.linked a) from k → r ≡ Some k
  next_is r k n t = by_next r (subst (λ (i : Graph). Next (i.linked a) from r) same n)
    where
      by_next : (o : Option ℕ) → Next (h.linked a) from o → o ≡ Some k
      by_next None none = absurd (both_ways (h.linked a k) (none k t.past) t.hit)
      by_next (Some j) f = ap Some (first_single (h.linked a) from j k f t)

  pub next_none : (r : Option ℕ) → Next (g.linked a) from r → ((j : ℕ) → from ≤ j → h.linked a j ≡ false) → r ≡ None
  next_none r n off = by_next r (subst (λ (i : Graph). Next (i.linked a) from r) same n)
    where
      by_next : (o : Option ℕ) → Next (h.linked a) from o → o ≡ None
      by_next None none = refl
      by_next (Some j) f = absurd (both_ways (h.linked a j) (off j f.past) f.hit)

-- no two verdicts have one meaning
meaning_single : (v w : Verdict) → (meaning v).0 ≡ (meaning w).0 → (meaning v).1 ≡ (meaning w).1 → v ≡ w
meaning_single Sound Sound number loads = refl
meaning_single (NotReturned a) (NotReturned b) number loads = cc
meaning_single (NotLinked a) (NotLinked b) number loads = cc
meaning_single (PathOfOne (a, b)) (PathOfOne (c, d)) number loads = cc
meaning_single (PathOfThree (a, x, y, z)) (PathOfThree (b, u, v, w)) number loads = cc
meaning_single _ _ number loads = absurd (omega (arith, number))

-- an answer under no reason to refuse, with the meaning of a verdict
pub found : (r : Result Verdict Refused) (v : Verdict) → Answers None r (λ w. meaning w ≡ meaning v) → r ≡ Ok v
found (Ok w) v h = ap Ok (meaning_single w v (ap (λ (m : ℕ × List ℕ). m.0) h.1) (ap (λ (m : ℕ × List ℕ). m.1) h.1))
found (Err e) v h = cc
