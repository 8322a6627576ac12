-- The first in a ranking, found among the members of a set, one by one.
use Rattle.std.proofs.Common.{◌≡◌, ℕ, zero, suc, ◌+◌, ◌<◌, ◌≤◌, Bool, true, false, Some, None, Option, sym, ap, ◌∙◌, subst, ap₂, inl, inr, arith}
use mathlib.Core.Path.{fun_ext}
use Rattle.std.proofs.lemmas.Bool.{cases_lt, cases_eq, cases_Bool, cond-true, cond-false, and_left, and_parts}
use Rattle.graph.specs.Graph.{Graph, Simple, First, count, NextBelow}
use Rattle.graph.specs.Pairs.{is_free}
use Rattle.graph.proofs.Partners.{none_is}
use Rattle.graph.proofs.Paths.{linked_apart}
use Rattle.links.specs.declared.members.MembersInOrder.{MembersInOrder}
use Rattle.links.specs.InOrder.{past, GivesNext}
use Rattle.ranking.specs.First.{earlier}
use Rattle.rules.specs.First.{first}
use Rattle.rules.specs.Repair.{Ranking, free_link, paired_found, match_free}
use Rattle.rules.proofs.First.{first_found}
use Rattle.tables.specs.declared.Tables.{Tables}
use Rattle.tables.specs.declared.free_loads.FreeLinked.{FreeLinked}
use Rattle.tables.specs.Views.{partners_of, free_degree_of, free_linked, Agrees}
use Rattle.tables.specs.Changes.{Pairing}
use Rattle.tables.specs.Choices.{FirstFree, Matched}
use Rattle.tables.specs.FreeLoads.{OverFree}

module _ (before : ℕ → ℕ → Bool) (test : ℕ → Bool) where
  -- what does not pass the test changes nothing
  pub first_cut : (n m : ℕ) → n ≤ m → ((y : ℕ) → n ≤ y → y < m → test y ≡ false) → first before m test ≡ first before n test
  first_cut n zero h none = let e : 0 ≡ n = omega arith in ap (λ (k : ℕ). first before k test) e
  first_cut n (suc m) h none = let again = first_cut n m in elim (cases_lt m n) [
    | inl l ↦ let e : suc m ≡ n = omega arith in ap (λ (k : ℕ). first before k test) e
    | inr l ↦ cond-false (test m) _ _ (none m l (omega arith)) ∙ again l (λ y p q. none y p (omega arith))
  ]

  -- the next that passes is compared with the best so far
  pub first_more : (from x : ℕ) (best : Option ℕ) → First test from x → best ≡ first before from test → {y to : ℕ} → y ≡ earlier before best x → to ≡ x + 1 → Some y ≡ first before to test
  first_more from x best next e {y} {to} is on =
      let so_far : first before x test ≡ best = first_cut from x next.past next.before ∙ sym e in
      let to-is : to ≡ suc x = omega arith in
      ap (λ (z : ℕ). Some z) is ∙ sym (ap (λ (k : ℕ). first before k test) to-is ∙ cond-true (test x) _ _ next.hit ∙ ap (λ (o : Option ℕ). Some (earlier before o x)) so_far)

  -- the best so far is the best of all where none is left
  pub first_all : (from n : ℕ) → ((y : ℕ) → from ≤ y → test y ≡ false) → ((y : ℕ) → n ≤ y → test y ≡ false) → first before from test ≡ first before n test
  first_all from n none past = elim (cases_lt from n)
      [ inl h ↦ sym (first_cut from n (omega arith) (λ y k _. none y k)) | inr h ↦ first_cut n from h (λ y k _. past y k) ]

-- where none passes, none is first
pub first_nowhere : (before : ℕ → ℕ → Bool) (n : ℕ) (test : ℕ → Bool) → ((y : ℕ) → y < n → test y ≡ false) → first before n test ≡ None
first_nowhere before n test none = first_cut before test 0 n (omega arith) (λ y _ h. none y h)

-- a count of 0 counts none
pub none_counted : (n : ℕ) (test : ℕ → Bool) → count n test ≡ 0 → (y : ℕ) → y < n → test y ≡ false
none_counted zero test e y h = absurd (omega arith)
none_counted (suc n) test e y h = elim (cases_Bool (test n)) [
  | inl on ↦ absurd (omega (arith, rw on at e))
  | inr off ↦ elim (cases_eq y n) [
    | inl here ↦ ap test here ∙ off
    | inr apart ↦ none_counted n test (omega arith) y (omega arith)
  ]
]

-- no number past the size is linked
pub past_size : (g : Graph) → Simple g → (a y : ℕ) → g.size ≤ y → g.linked a y ≡ false
past_size g simple a y h = elim (cases_Bool (g.linked a y)) [ inl e ↦ absurd (omega (arith, simple.below y a (simple.symmetric y a ∙ e))) | inr e ↦ e ]

-- an iterator over the free loads that a is linked to goes on from past the one that it gave
pub free_step : (t : Tables) (a : ℕ) {v w : MembersInOrder FreeLinked} {r : Option ℕ} → OverFree t a v → GivesNext (λ _. Unit {0}) (λ s. free_linked s.tables.now s.load) v r w →
    OverFree t a w × (w.from ≡ past v.from r) × NextBelow (free_linked t a) v.from 256 r
free_step t a {v} {w} {r} over step = (
  rw step.after (record { tables_are = over.tables_are; load_is = over.load_is; end_is = over.end_is }),
  ap (λ (s : MembersInOrder FreeLinked). s.from) step.after,
  subst (λ (n : ℕ). NextBelow (free_linked t a) v.from n r) over.end_is
      (subst (λ (test : ℕ → Bool). NextBelow test v.from v.end r) (ap₂ free_linked over.tables_are over.load_is) (step.next tt)),
)

pub first_is : (before : Ranking) (t : Tables) (a from : ℕ) (best : Option ℕ) →
    best ≡ first (before a) from (free_linked t a) → NextBelow (free_linked t a) from 256 None → FirstFree before a t best
first_is before t a from best e none n small beyond =
    let all : (y : ℕ) → from ≤ y → free_linked t a y ≡ false = λ y h. elim (cases_lt y 256) [ inl l ↦ none y h l | inr l ↦ beyond y (omega arith) ] in
    e ∙ first_all (before a) (free_linked t a) from n all beyond

-- by tables that agree with a graph, the first of the free loads that a is linked to in it
pub first_agreed : (before : Ranking) (g : Graph) → Simple g → (a : ℕ) (t : Tables) → Agrees g t → (r : Option ℕ) → FirstFree before a t r →
    r ≡ first (before a) g.size (free_link g (partners_of t) a)
first_agreed before g simple a t k r h =
    h g.size simple.small (λ y past. k.tracks.sets a y ∙ and_left (g.linked a y) _ (past_size g simple a y past))
    ∙ ap (first (before a) g.size) (fun_ext (k.tracks.sets a))

-- ---- a load matched with the first

module _ (before : Ranking) (g : Graph) (simple : Simple g) (a : ℕ) (s : Tables) (k : Agrees g s) (free : is_free (partners_of s) a ≡ true) where
  found : (r : Option ℕ) → FirstFree before a s r → match_free before g a (partners_of s) ≡ paired_found a r (partners_of s)
  found r h = cond-true (is_free (partners_of s) a) _ _ free ∙ ap (λ (o : Option ℕ). paired_found a o (partners_of s)) (sym (first_agreed before g simple a s k r h))

  pub matched_some : (b : ℕ) {t : Tables} → FirstFree before a s (Some b) → Pairing g a b s t → Matched before g a s t
  matched_some b h pair =
      let first-b = first_found (before a) g.size (free_link g (partners_of s) a) b (sym (first_agreed before g simple a s k (Some b) h)) in
      let (link, free-b) = and_parts (g.linked a b) (is_free (partners_of s) b) first-b.passes in
      let in-a = simple.below a b link in
      record {
        partners = pair.partners (omega (arith, simple.small)) (omega (arith, simple.small, first-b.inside)) ∙ sym (found (Some b) h);
        agrees = pair.agrees in-a first-b.inside (linked_apart g simple a b link) (none_is (partners_of s a) free) (none_is (partners_of s b) free-b) k;
      }

  -- a load with no free load to take stays as it is
  pub matched_none : (r : Option ℕ) → r ≡ None → FirstFree before a s r → Matched before g a s s
  matched_none r none h = record { partners = ap (λ (o : Option ℕ). paired_found a o (partners_of s)) (sym none) ∙ sym (found r h); agrees = k }

  pub count_none_matched : free_degree_of s a ≡ 0 → Matched before g a s s
  count_none_matched none =
      let test = free_link g (partners_of s) a in
      let first-none = first_nowhere (before a) g.size test (none_counted g.size test (sym (k.tracks.counts a) ∙ none)) in
      record {
        partners = sym (cond-true (is_free (partners_of s) a) _ _ free ∙ ap (λ (o : Option ℕ). paired_found a o (partners_of s)) first-none);
        agrees = k;
      }
