-- What a refusal tells.
use Rattle.std.specs.Prelude.{◌≡◌, ℕ, List, [], ◌∷◌, Some, None, Ok, Err, Option, Result}
use Rattle.links.specs.declared.refusal.Layer.{Layer}
use Rattle.links.specs.declared.refusal.Refusal.{Refusal}
use Rattle.links.specs.declared.refusal.Refusal.TheVariants.{SizeOutOfRange, LimitOutOfRange}
use Rattle.links.specs.declared.refusal.Refusal.TheVariants.{WrongLength, NoSuchLoad, SameLoad}
use Rattle.links.specs.declared.refusal.Refusal.TheVariants.{AlreadyLinked, NotLinked, Barred}
use Rattle.links.specs.declared.refusal.Refusal.TheVariants.{LoadFull, BookFull, NoPartner}
use Rattle.links.specs.declared.refusal.Refusal.TheVariants.{UnknownCommand, CutShort}
use Rattle.links.specs.declared.refusal.Refusal.TheVariants.{OutputTooShort, BadEntry}
use Rattle.links.specs.declared.refusal.Refused.{Refused}

-- the number of each refusal, and the values that go with it
abbrev pub meaning : Refusal → ℕ × List ℕ
meaning SizeOutOfRange = (1, [])
meaning LimitOutOfRange = (2, [])
meaning WrongLength = (3, [])
meaning NoSuchLoad = (4, [])
meaning SameLoad = (5, [])
meaning AlreadyLinked = (6, [])
meaning NotLinked = (7, [])
meaning Barred = (8, [])
meaning LoadFull = (9, [])
meaning BookFull = (10, [])
meaning NoPartner = (11, [])
meaning UnknownCommand = (12, [])
meaning CutShort = (13, [])
meaning OutputTooShort = (14, [])
meaning (BadEntry index) = (15, index ∷ [])

-- a reason to refuse: number, values, and the layer that finds it
pub record Reason : Type 0 where
  pub number : ℕ
  pub values : List ℕ
  pub layer : Layer

abbrev pub told : Refused → Reason
told r = record { number = (meaning r.refusal).0; values = (meaning r.refusal).1; layer = r.layer }

-- the reason that a layer tells by a refusal
abbrev pub told_by : Refusal → Layer → Option Reason
told_by refusal layer = Some (told (record { refusal = refusal; layer = layer }))

-- an answer under the first reason to refuse, if there is one: granted with what then holds, or
-- refused for that reason
abbrev pub Answers : {A : Type 0} → Option Reason → Result A Refused → (A → Type 0) → Type 0
Answers reason (Ok x) Granted = (reason ≡ None) × Granted x
Answers reason (Err e) Granted = reason ≡ Some (told e)

-- a refused call leaves the value as it was
abbrev pub Kept : {A S : Type 0} → Result A Refused → S → S → Type 0
Kept (Ok x) before after = Unit {0}
Kept (Err e) before after = after ≡ before
