-- A refusal is known by what it tells.
use Rattle.std.proofs.Common.{◌≡◌, ℕ, List, [], ◌∷◌, get_or, Some, None, Ok, Err, Option, Result, sym, refl, ap, ◌∙◌, arith}
use Rattle.links.specs.Refusals.{Reason, Answers, Kept, meaning, told}
use Rattle.links.specs.declared.refusal.Refusal.{Refusal}
use Rattle.links.specs.declared.refusal.Refusal.TheVariants.{SizeOutOfRange, LimitOutOfRange, WrongLength, NoSuchLoad, SameLoad, AlreadyLinked, NotLinked, Barred, LoadFull, BookFull, NoPartner, UnknownCommand, CutShort, OutputTooShort, BadEntry}
use Rattle.links.specs.declared.refusal.Refused.{Refused}

-- those without values, by their numbers from 1
numbered : List Refusal
numbered = SizeOutOfRange ∷ LimitOutOfRange ∷ WrongLength ∷ NoSuchLoad ∷ SameLoad ∷ AlreadyLinked ∷ NotLinked ∷ Barred ∷ LoadFull ∷ BookFull ∷ NoPartner ∷ UnknownCommand ∷ CutShort ∷ OutputTooShort ∷ []

abbrev refusal_of : ℕ × List ℕ → Refusal
refusal_of (number, index ∷ rest) = BadEntry index
refusal_of (number, []) = get_or (SizeOutOfRange ∷ numbered) number SizeOutOfRange

meant : (x : Refusal) → refusal_of (meaning x) ≡ x
unfolding numbered
meant SizeOutOfRange = refl
meant LimitOutOfRange = refl
meant WrongLength = refl
meant NoSuchLoad = refl
meant SameLoad = refl
meant AlreadyLinked = refl
meant NotLinked = refl
meant Barred = refl
meant LoadFull = refl
meant BookFull = refl
meant NoPartner = refl
meant UnknownCommand = refl
meant CutShort = refl
meant OutputTooShort = refl
meant (BadEntry index) = refl

told_same : (e f : Refused) → told e ≡ told f → e ≡ f
told_same e f same =
    let refusals = sym (meant e.refusal) ∙ ap (λ (t : Reason). refusal_of (t.number, t.values)) same ∙ meant f.refusal in
    λ i. record { refusal = refusals i; layer = (same i).layer }

-- a call that has no reason to be refused is not
pub not_refused : {o : Option Reason} (e : Refused) → o ≡ None → o ≡ Some (told e) → ⊥
not_refused e none some = let z : ◌≡◌ {A = ℕ} 0 1 = cc in omega arith

-- a call that has one is refused for it
pub refused_with : {A : Type 0} (P : A → Type 0) (o : Option Reason) (r : Result A Refused) (f : Refused) → Answers o r P → o ≡ Some (told f) → r ≡ Err f
refused_with P o (Ok x) f h some = absurd (not_refused f h.0 some)
refused_with P o (Err e) f h some = let same : told e ≡ told f = cc in ap Err (told_same e f same)

-- a question that is not refused gets its answer
pub answered : {A : Type 0} (o : Option Reason) (r : Result A Refused) (a : A) → Answers o r (λ x. x ≡ a) → o ≡ None → r ≡ Ok a
answered o (Ok x) a h none = ap Ok h.1
answered o (Err e) a h none = absurd (not_refused e none h)

-- ---- an answer that is granted, as after a `?`

pub err_granted : {A : Type 0} (e : Refused) (a : A) → ◌≡◌ {A = Result A Refused} (Err e) (Ok a) → ⊥
err_granted e a same = let z : ◌≡◌ {A = ℕ} 0 1 = cc in omega arith

pub granted_same : {A : Type 0} (a b : A) → ◌≡◌ {A = Result A Refused} (Ok a) (Ok b) → a ≡ b
granted_same a b same = cc

pub granted_answers : {A : Type 0} (o : Option Reason) (r : Result A Refused) (a : A) (P : Type 0) → r ≡ Ok a → o ≡ None → P → Answers o r (λ x. (x ≡ a) × P)
granted_answers o (Ok x) a P same none p = (none, (granted_same x a same, p))
granted_answers o (Err e) a P same none p = absurd (err_granted e a same)

pub granted_keeps : {A S : Type 0} (r : Result A Refused) (a : A) (s t : S) → r ≡ Ok a → Kept r s t
granted_keeps (Ok x) a s t same = tt
granted_keeps (Err e) a s t same = absurd (err_granted e a same)
