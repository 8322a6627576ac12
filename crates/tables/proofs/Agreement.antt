-- What the public changes come to.
use Rattle.std.proofs.Common.{◌≡◌, ℕ, ◌<◌, ◌≤◌, Bool, true, false, cond, not, ◌&&◌, ◌||◌, eqb, is_some, Some, None, Option, sym, refl, ap, ◌∙◌, subst, inl, inr, arith}
use mathlib.Core.Path.{fun_ext}
use Rattle.std.proofs.lemmas.Bool.{cases_lt, ne_eqb, eqb-true, cond-false}
use Rattle.std.proofs.lemmas.Bool.Decides.{nat_tests}
use Rattle.graph.specs.Graph.{Graph, Simple}
use Rattle.graph.specs.Matching.{Partners}
use Rattle.graph.specs.Pairs.{is_free}
use Rattle.graph.proofs.Partners.{none_free}
use Rattle.graph.proofs.Paths.{free_taken, free_apart}
use Rattle.rules.specs.Repair.{paired, freed}
use Rattle.rules.proofs.Updates.{paired_other}
use Rattle.tables.specs.declared.Tables.{Tables}
use Rattle.tables.specs.Views.{partners_of, free_linked, Tracks, Agrees}
use Rattle.tables.specs.Steps.{Stepped, Written}
use Rattle.tables.specs.Changes.{relinked, step_if, Relinking, Told, Pairing, Parting, Exchanging, Replacing}
use Rattle.tables.proofs.Tracks.{told_track, relinked_track}

-- ---- links

size_kept : (on : Bool) (g : Graph) (a b : ℕ) → (relinked on g a b).size ≡ g.size
size_kept true g a b = refl
size_kept false g a b = refl

-- a bit that is put into the set of b, then into that of a
both_put : (on was free-a free-b free-z ay bz az by : Bool) → (az ≡ true → free-z ≡ free-a) → (bz ≡ true → free-z ≡ free-b) →
    cond ((by && free-a) && az) on (cond ((ay && free-b) && bz) on was) ≡ cond (((ay && bz) || (az && by)) && free-z) on was
both_put on was free-a free-b free-z ay bz az by h k = grind arith

pub relinking : (on : Bool) (a b : ℕ) {s u t : Tables} → Stepped on (eqb a) (λ y. eqb a y && is_free (partners_of s) b) b s u →
    Stepped on (eqb b) (λ y. eqb b y && is_free (partners_of u) a) a u t → Relinking on a b s t
relinking on a b {s} {u} {t} first second =
    let kept : partners_of u ≡ partners_of s = fun_ext first.partners in
    let same : partners_of t ≡ partners_of s = fun_ext second.partners ∙ kept in
    let next = subst (λ (p : Partners). Stepped on (eqb b) (λ y. eqb b y && is_free p a) a u t) kept second in
    record {
      partners = same;
      relinks = λ _ _. record {
        degrees = λ y. next.degrees y ∙ ap (step_if (eqb b y) on) (first.degrees y);
        counts = λ y. next.counts y ∙ ap (step_if (eqb b y && is_free (partners_of s) a) on) (first.counts y);
        sets = λ y z. next.sets y z ∙ ap (cond ((eqb b y && is_free (partners_of s) a) && eqb a z) on) (first.sets y z)
            ∙ both_put on (free_linked s y z) (is_free (partners_of s) a) (is_free (partners_of s) b) (is_free (partners_of s) z) (eqb a y) (eqb b z) (eqb a z) (eqb b y)
            (λ e. ap (is_free (partners_of s)) (sym (eqb-true a z e))) (λ e. ap (is_free (partners_of s)) (sym (eqb-true b z e)));
      };
      agrees = λ g simple in-a in_b apart was k. record {
        tracks = subst (λ (p : Partners). Tracks (relinked on g a b) (is_free p) t) (sym same)
            (relinked_track on g simple (is_free (partners_of s)) a b in-a in_b apart was first next k.tracks);
        beyond = λ x h. ap (λ (p : Partners). p x) same ∙ k.beyond x (subst (λ (n : ℕ). n ≤ x) (size_kept on g a b) h);
      };
    }

-- ---- partners

-- partners written, and then changed by f
pub written_then : (f : Partners → Partners) {p : Partners} {s u t : Tables} → Written p s u → Written (f (partners_of u)) u t → Written (f p) s t
written_then f first second = record {
  partners = λ y. second.partners y ∙ ap (λ (q : Partners). f q y) (fun_ext first.partners);
  degrees = λ y. second.degrees y ∙ first.degrees y;
  counts = λ y. second.counts y ∙ first.counts y;
  sets = λ y z. second.sets y z ∙ first.sets y z;
}

written_track : {g : Graph} {free : ℕ → Bool} {p : Partners} {s t : Tables} → Written p s t → Tracks g free s → Tracks g free t
written_track w k = record {
  degrees = λ y. w.degrees y ∙ k.degrees y;
  sets = λ y z. w.sets y z ∙ k.sets y z;
  counts = λ y. w.counts y ∙ k.counts y;
}

-- a load with a partner stands below the size
inside : (g : Graph) (s : Tables) (a b : ℕ) → Agrees g s → partners_of s a ≡ Some b → a < g.size
inside g s a b k e = elim (cases_lt a g.size) [ inl l ↦ l | inr l ↦ absurd (free_taken (partners_of s a) b (k.beyond a l) e) ]

-- partners are written, and then the loads linked to a and to b are told
module _ (g : Graph) (p : Partners) (a : ℕ) (free-a : Bool) (b : ℕ) (free-b : Bool) {s u v t : Tables} (w : Written p s u)
    (first : Stepped free-a (λ _. false) (g.linked a) a u v) (second : Stepped free-b (λ _. false) (g.linked b) b v t) where
  pub now_partners : partners_of t ≡ p
  now_partners = fun_ext (λ y. second.partners y ∙ first.partners y ∙ w.partners y)

  pub told_two : Told g a free-a b free-b s t
  told_two = record {
    degrees = λ y. second.degrees y ∙ first.degrees y ∙ w.degrees y;
    counts = λ y. second.counts y ∙ ap (step_if (g.linked b y) free-b) (first.counts y ∙ ap (step_if (g.linked a y) free-a) (w.counts y));
    sets = λ y z. second.sets y z
        ∙ ap (cond (g.linked b y && eqb b z) free-b) (first.sets y z ∙ ap (cond (g.linked a y && eqb a z) free-a) (w.sets y z));
  }

  pub told_agrees : Simple g → (a ≡ b → ⊥) → is_free (partners_of s) a ≡ not free-a → is_free (partners_of s) b ≡ not free-b →
      ((z : ℕ) → cond (eqb b z) free-b (cond (eqb a z) free-a (is_free (partners_of s) z)) ≡ is_free p z) → ((x : ℕ) → g.size ≤ x → p x ≡ None) → Agrees g s → Agrees g t
  told_agrees simple apart was-a was-b frees beyond k =
      let still = cond-false (eqb a b) free-a (is_free (partners_of s) b) (ne_eqb a b apart) ∙ was-b in
      let once = told_track g simple (is_free (partners_of s)) free-a a was-a first (written_track w k.tracks) in
      let twice = told_track g simple (λ z. cond (eqb a z) free-a (is_free (partners_of s) z)) free-b b still second once in
      record {
        tracks = subst (λ (f : ℕ → Bool). Tracks g f t) (fun_ext (λ z. frees z ∙ ap (λ (q : Partners). is_free q z) (sym now_partners))) twice;
        beyond = λ x h. ap (λ (q : Partners). q x) now_partners ∙ beyond x h;
      }

-- ---- which loads are free afterwards

pair_frees : (a b : ℕ) (p : Partners) (w : ℕ) → cond (eqb b w) false (cond (eqb a w) false (is_free p w)) ≡ is_free (paired a b p) w
pair_frees a b p w = grind (arith, nat_tests)

part_frees : (a b : ℕ) (p : Partners) (w : ℕ) → cond (eqb b w) true (cond (eqb a w) true (is_free p w)) ≡ is_free (freed a (freed b p)) w
part_frees a b p w = grind (arith, nat_tests)

exchange_frees : (a x y z : ℕ) (p : Partners) → is_free p x ≡ false → is_free p y ≡ false → (w : ℕ) →
    cond (eqb z w) false (cond (eqb a w) false (is_free p w)) ≡ is_free (paired y z (paired a x p)) w
exchange_frees a x y z p taken-x taken-y w = grind (arith, nat_tests)

replace_frees : (a x y : ℕ) (p : Partners) → is_free p x ≡ false → (w : ℕ) →
    cond (eqb y w) true (cond (eqb a w) false (is_free p w)) ≡ is_free (freed y (paired a x p)) w
replace_frees a x y p taken-x w = grind (arith, nat_tests)

some_taken : (p : Partners) (a b : ℕ) → p a ≡ Some b → is_free p a ≡ false
some_taken p a b e = ap (λ (x : Option ℕ). not (is_some x)) e

paired_else : (a b : ℕ) (p : Partners) (x : ℕ) → (x ≡ a → ⊥) → (x ≡ b → ⊥) → p x ≡ None → paired a b p x ≡ None
paired_else a b p x not_a not-b none = paired_other a b p x not_a not-b ∙ none

freed_none : (a : ℕ) (p : Partners) (x : ℕ) → p x ≡ None → freed a p x ≡ None
freed_none a p x none = grind (arith, nat_tests)

-- ---- the public changes of partners

module _ (g : Graph) (simple : Simple g) {s u v t : Tables} where
  pub pairing : (a b : ℕ) → Written (paired a b (partners_of s)) s u → Stepped false (λ _. false) (g.linked a) a u v → Stepped false (λ _. false) (g.linked b) b v t →
      Pairing g a b s t
  pairing a b w first second =
      let p = partners_of s in
      record {
        partners = λ _ _. now_partners g (paired a b p) a false b false w first second;
        told = λ _ _. told_two g (paired a b p) a false b false w first second;
        agrees = λ in-a in_b apart free-a free-b k.
            told_agrees g (paired a b p) a false b false w first second simple apart (none_free (p a) free-a) (none_free (p b) free-b) (pair_frees a b p)
            (λ x h. paired_else a b p x (λ e. omega arith) (λ e. omega arith) (k.beyond x h)) k;
      }

  pub parting : (a b : ℕ) → Written (freed a (freed b (partners_of s))) s u → Stepped true (λ _. false) (g.linked a) a u v → Stepped true (λ _. false) (g.linked b) b v t →
      Parting g a b s t
  parting a b w first second =
      let p = partners_of s in
      record {
        partners = λ _ _. now_partners g (freed a (freed b p)) a true b true w first second;
        told = λ _ _. told_two g (freed a (freed b p)) a true b true w first second;
        agrees = λ apart pair back k.
            told_agrees g (freed a (freed b p)) a true b true w first second simple apart (some_taken p a b pair) (some_taken p b a back) (part_frees a b p)
            (λ x h. freed_none a (freed b p) x (freed_none b p x (k.beyond x h))) k;
      }

  pub exchanging : (a x y z : ℕ) → Written (paired y z (paired a x (partners_of s))) s u → Stepped false (λ _. false) (g.linked a) a u v → Stepped false (λ _. false) (g.linked z) z v t →
      Exchanging g a x y z s t
  exchanging a x y z w first second =
      let p = partners_of s in
      let q = paired y z (paired a x p) in
      record {
        partners = λ _ _ _ _. now_partners g q a false z false w first second;
        told = λ _ _ _ _. told_two g q a false z false w first second;
        agrees = λ in-a in-z apart free-a free_z pair back k.
            let in-x = inside g s x y k pair in
            let in-y = inside g s y x k back in
            told_agrees g q a false z false w first second simple apart (none_free (p a) free-a) (none_free (p z) free_z)
            (exchange_frees a x y z p (some_taken p x y pair) (some_taken p y x back))
            (λ n h. paired_else y z (paired a x p) n (λ e. omega arith) (λ e. omega arith) (paired_else a x p n (λ e. omega arith) (λ e. omega arith) (k.beyond n h))) k;
      }

  pub replacing : (a x y : ℕ) → Written (freed y (paired a x (partners_of s))) s u → Stepped false (λ _. false) (g.linked a) a u v → Stepped true (λ _. false) (g.linked y) y v t →
      Replacing g a x y s t
  replacing a x y w first second =
      let p = partners_of s in
      let q = freed y (paired a x p) in
      record {
        partners = λ _ _ _. now_partners g q a false y true w first second;
        told = λ _ _ _. told_two g q a false y true w first second;
        agrees = λ in-a free-a pair back k.
            let in-x = inside g s x y k pair in
            told_agrees g q a false y true w first second simple (free_apart p a y x free-a back) (none_free (p a) free-a) (some_taken p y x back)
            (replace_frees a x y p (some_taken p x y pair))
            (λ n h. freed_none y (paired a x p) n (paired_else a x p n (λ e. omega arith) (λ e. omega arith) (k.beyond n h))) k;
      }
