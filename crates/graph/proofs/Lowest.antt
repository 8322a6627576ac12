-- The answer at the lowest number that has one.
use Rattle.std.proofs.Common.{◌≡◌, ℕ, zero, suc, ◌<◌, Bool, true, false, Some, None, Option, refl, ap, ◌∙◌, ⊎_elim, arith}
use Rattle.std.proofs.lemmas.Bool.{cases_eq}
use Rattle.std.specs.Bool.{then_some}
use Rattle.std.specs.Option.{option_or}
use Rattle.graph.specs.Graph.{lowest}

pub lowest_none : {A : Type 0} (n : ℕ) (f : ℕ → Option A) → ((k : ℕ) → k < n → f k ≡ None) → lowest n f ≡ None
lowest_none zero f off = refl
lowest_none (suc n) f off =
    let before : lowest n f ≡ None = lowest_none n f (λ k l. off k (omega arith)) in
    let here : f n ≡ None = off n (omega arith) in
    cc

-- where there is no answer, none of the numbers has one
pub none_below : {A : Type 0} (n : ℕ) (f : ℕ → Option A) → lowest n f ≡ None → (k : ℕ) → k < n → f k ≡ None
none_below zero f e k l = absurd (omega arith)
none_below (suc n) f e k l =
    let parts = both_none (lowest n f) (f n) e in
    ⊎_elim
    (λ same. ap f same ∙ parts.1)
    (λ ne. none_below n f parts.0 k (omega (arith, ne)))
    (cases_eq k n)
  where
    both_none : {A : Type 0} (o other : Option A) → option_or o other ≡ None → (o ≡ None) × (other ≡ None)
    both_none None other e = (refl, e)
    both_none (Some x) other e = (e, cc)

-- ---- the lowest number that passes a test, with what is told of it

when_false : {A : Type 0} (b : Bool) (x : A) → b ≡ false → then_some b x ≡ None
when_false true x e = cc
when_false false x e = refl

when_none : {A : Type 0} (b : Bool) (x : A) → then_some b x ≡ None → b ≡ false
when_none true x e = cc
when_none false x e = refl

pub passing_none : {A : Type 0} (n : ℕ) (test : ℕ → Bool) (told : ℕ → A) → ((k : ℕ) → k < n → test k ≡ false) → lowest n (λ k. then_some (test k) (told k)) ≡ None
passing_none n test told off = lowest_none n (λ k. then_some (test k) (told k)) (λ k l. when_false (test k) (told k) (off k l))

pub none_passing : {A : Type 0} (n : ℕ) (test : ℕ → Bool) (told : ℕ → A) → lowest n (λ k. then_some (test k) (told k)) ≡ None → (k : ℕ) → k < n → test k ≡ false
none_passing n test told e k l = when_none (test k) (told k) (none_below n (λ k. then_some (test k) (told k)) e k l)
