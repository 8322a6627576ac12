-- What holds where there is no reason to refuse.
use Rattle.std.proofs.Common.{◌≡◌, ℕ, ◌<◌, Bool, true, false, cond, ◌||◌, eqb, leb, IsErrAnd, Some, None, Ok, Err, Option, Result, sym, refl, ap, ◌∙◌, arith}
use Rattle.std.proofs.lemmas.Bool.{cond-false, or_from, or_parts, lt-leb, leb-false, ne_eqb, eqb-false}
use Rattle.graph.specs.Graph.{Graph}
use Rattle.links.specs.Books.{Ledger, unless_two_of, unless_open, unless_spares, unless_room, adding, removing, Adds}
use Rattle.links.specs.Refusals.{Reason, told, Answers, Kept}
use Rattle.links.specs.declared.refusal.Layer.{Layer}
use Rattle.links.specs.declared.refusal.Layer.TheVariants.{Book}
use Rattle.links.specs.declared.refusal.Refused.{Refused}

some_none : (r : Reason) → Some r ≡ None → ⊥
some_none r e = let z : ◌≡◌ {A = ℕ} 0 1 = cc in omega arith

-- a test that would have refused has failed
pub cond_none : (t : Bool) (r : Reason) (o : Option Reason) → cond t (Some r) o ≡ None → (t ≡ false) × (o ≡ None)
cond_none true r o e = absurd (some_none r e)
cond_none false r o e = (refl, e)

cond_some : (t : Bool) (r : Reason) (o : Option Reason) → cond t o (Some r) ≡ None → (t ≡ true) × (o ≡ None)
cond_some true r o e = (refl, e)
cond_some false r o e = absurd (some_none r e)

pub record TwoLoads (size a b : ℕ) : Type 0 where
  pub a_below : a < size
  pub b_below : b < size
  pub apart : a ≡ b → ⊥

pub two_none : (layer : Layer) (size a b : ℕ) (o : Option Reason) → unless_two_of layer size a b o ≡ None → TwoLoads size a b × (o ≡ None)
two_none layer size a b o e =
    let (past, rest) = cond_none (leb size a || leb size b) _ _ e in
    let (same, rest') = cond_none (eqb a b) _ _ rest in
    let (past-a, past-b) = or_parts (leb size a) (leb size b) past in
    (record { a_below = leb-false size a past-a; b_below = leb-false size b past-b; apart = eqb-false a b same }, rest')

-- the reason is the same, whatever else would be tested
cond_refused : (t : Bool) (x : Option Reason) (p q : Option Reason) (r : Reason) → (p ≡ Some r → q ≡ Some r) → cond t x p ≡ Some r → cond t x q ≡ Some r
cond_refused true x p q r more h = h
cond_refused false x p q r more h = more h

pub not_refused : (r : Reason) (P : Type 0) → None ≡ Some r → P
not_refused r P e = absurd (some_none r (sym e))

pub two_refused : (layer : Layer) (size a b : ℕ) (p q : Option Reason) (r : Reason) → (p ≡ Some r → q ≡ Some r) → unless_two_of layer size a b p ≡ Some r → unless_two_of layer size a b q ≡ Some r
two_refused layer size a b p q r more =
    cond_refused (leb size a || leb size b) _ _ _ r (cond_refused (eqb a b) _ _ _ r more)

pub two_granted : (layer : Layer) (size a b : ℕ) (o : Option Reason) → TwoLoads size a b → unless_two_of layer size a b o ≡ o
two_granted layer size a b o two =
    cond-false (leb size a || leb size b) _ _ (or_from (leb size a) (leb size b) (lt-leb size a two.a_below) (lt-leb size b two.b_below))
    ∙ cond-false (eqb a b) _ _ (ne_eqb a b two.apart)

-- a value that stays as it is, whatever the answer
pub kept_same : {A S : Type 0} (r : Result A Refused) (s : S) → Kept r s s
kept_same (Ok x) s = tt
kept_same (Err e) s = refl

-- refused for the reason of e, as by a `?`
pub refused_by : {A : Type 0} (o : Option Reason) (e : Refused) (r : Result A Refused) (Granted : A → Type 0) → IsErrAnd r (λ x. x ≡ e) → o ≡ Some (told e) → Answers o r Granted
refused_by o e (Ok x) Granted by why = absurd by
refused_by o e (Err x) Granted by why = why ∙ ap (λ (f : Refused). Some (told f)) (sym by)

-- ---- a pair that is open to a new link, and what is left for it

pub record Open (g : Graph) (barred : Bool) (a b : ℕ) : Type 0 where
  pub two : TwoLoads g.size a b
  pub unbarred : barred ≡ false
  pub off : g.linked a b ≡ false

pub open_none : (g : Graph) (barred : Bool) (a b : ℕ) (o : Option Reason) → unless_open g barred a b o ≡ None → Open g barred a b × (o ≡ None)
open_none g barred a b o e =
    let (two, e₁) = two_none Book g.size a b _ e in
    let (unbarred, e₂) = cond_none barred _ _ e₁ in
    let (off, e₃) = cond_none (g.linked a b) _ _ e₂ in
    (record { two = two; unbarred = unbarred; off = off }, e₃)

pub open_granted : (g : Graph) (barred : Bool) (a b : ℕ) (o : Option Reason) → Open g barred a b → unless_open g barred a b o ≡ o
open_granted g barred a b o is-open =
    two_granted Book g.size a b _ is-open.two ∙ cond-false barred _ _ is-open.unbarred ∙ cond-false (g.linked a b) _ _ is-open.off

pub open_refused : (g : Graph) (barred : Bool) (a b : ℕ) (o : Option Reason) (r : Reason) → unless_open g barred a b None ≡ Some r → unless_open g barred a b o ≡ Some r
open_refused g barred a b o r =
    two_refused Book g.size a b _ _ r (cond_refused barred _ _ _ r (cond_refused (g.linked a b) _ _ _ r (not_refused r (o ≡ Some r))))

-- of an open pair only what is left for its link is asked
pub adding_left : (g : Graph) (l : Ledger) (a b x y z : ℕ) → unless_open g (l.barred a b) a b None ≡ None → x ≡ l.spare a → y ≡ l.spare b → z ≡ l.room → adding g l a b ≡ unless_spares x y (unless_room z None)
adding_left g l a b x y z none ex ey ez =
    open_granted g (l.barred a b) a b _ (open_none g (l.barred a b) a b None none).0
    ∙ (λ i. unless_spares (sym ex i) (sym ey i) (unless_room (sym ez i) None))

pub record Addable (g : Graph) (l : Ledger) (a b : ℕ) : Type 0 where
  pub two : TwoLoads g.size a b
  pub off : g.linked a b ≡ false
  pub spare_a : l.spare a ≡ 0 → ⊥
  pub spare_b : l.spare b ≡ 0 → ⊥
  pub room : l.room ≡ 0 → ⊥

pub adding_none : (g : Graph) (l : Ledger) (a b : ℕ) → adding g l a b ≡ None → Addable g l a b
adding_none g l a b e =
    let (is-open, e₁) = open_none g (l.barred a b) a b _ e in
    let (full, e₂) = cond_none (eqb (l.spare a) 0 || eqb (l.spare b) 0) _ _ e₁ in
    let (room, _) = cond_none (eqb l.room 0) _ _ e₂ in
    let (full-a, full-b) = or_parts (eqb (l.spare a) 0) (eqb (l.spare b) 0) full in
    record { two = is-open.two; off = is-open.off; spare_a = eqb-false (l.spare a) 0 full-a; spare_b = eqb-false (l.spare b) 0 full-b; room = eqb-false l.room 0 room }

pub record Removable (g : Graph) (a b : ℕ) : Type 0 where
  pub two : TwoLoads g.size a b
  pub on : g.linked a b ≡ true

pub removing_none : (g : Graph) (a b : ℕ) → removing g a b ≡ None → Removable g a b
removing_none g a b e =
    let (two, e₁) = two_none Book g.size a b _ e in
    record { two = two; on = (cond_some (g.linked a b) _ _ e₁).0 }

-- ---- a call that adds, refused by a `?` before anything was changed

module _
    {S : Type 0} (graph : S → Graph) (made : S → Type 0) (ledger : S → Ledger)
    (s : S) (a b : ℕ) (e : Refused) (r : Result Unit Refused) (by : IsErrAnd r (λ x. x ≡ e)) where
  pub add_refused : (made s → adding (graph s) (ledger s) a b ≡ Some (told e)) → Adds graph made ledger s a b r s
  add_refused why = record { kept = kept_same r s; answers = λ m. refused_by _ e r _ by (why m) }

  -- since the pair is not open
  pub add_not_open : (made s → unless_open (graph s) ((ledger s).barred a b) a b None ≡ Some (told e)) → Adds graph made ledger s a b r s
  add_not_open why = add_refused (λ m. open_refused (graph s) ((ledger s).barred a b) a b _ _ (why m))
