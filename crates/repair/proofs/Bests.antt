-- The first in a ranking among the members of a set that pass a test.
use Rattle.std.proofs.Common.{◌≡◌, ℕ, ◌+◌, ◌<◌, ◌≤◌, Bool, true, false, ◌&&◌, Some, None, Option, sym, ap, ◌∙◌, subst, inl, inr, arith}
use Rattle.std.proofs.lemmas.Bool.{cases_eq, and_from, and_left, and_right}
use Rattle.graph.specs.Graph.{Graph, Simple, First, NextBelow}
use Rattle.links.specs.declared.members.MembersInOrder.{MembersInOrder}
use Rattle.links.specs.declared.members.LinkedTo.{LinkedTo}
use Rattle.links.specs.InOrder.{GivesNext, Over}
use Rattle.ranking.specs.First.{earlier}
use Rattle.rules.specs.First.{first}
use Rattle.tables.specs.declared.Tables.{Tables}
use Rattle.tables.specs.declared.free_loads.FreeLinked.{FreeLinked}
use Rattle.tables.specs.Views.{free_linked}
use Rattle.tables.specs.FreeLoads.{OverFree}
use Rattle.tables.proofs.Firsts.{first_cut, first_more, past_size}
use Rattle.repair.specs.Best.{BestOf}

module _ (before : ℕ → ℕ → Bool) (listed kept : ℕ → Bool) where
  abbrev both : ℕ → Bool
  both z = listed z && kept z

  module _ (from x : ℕ) (best : Option ℕ) (next : First listed from x) (e : best ≡ first before from both) where
    pub member_takes : kept x ≡ true → {y to : ℕ} → y ≡ earlier before best x → to ≡ x + 1 → Some y ≡ first before to both
    member_takes on is to-is = first_more before both from x best (record {
      past = next.past;
      hit = and_from (listed x) (kept x) next.hit on;
      before = λ y h l. and_left (listed y) (kept y) (next.before y h l);
    }) e is to-is

    pub member_skips : kept x ≡ false → {to : ℕ} → to ≡ x + 1 → best ≡ first before to both
    member_skips off {to} to-is = e ∙ sym (first_cut before both from to (omega (arith, next.past, to-is)) none)
      where
        none : (y : ℕ) → from ≤ y → y < to → both y ≡ false
        none y h l = elim (cases_eq y x) [
          | inl here ↦ and_right (listed y) (kept y) (ap kept here ∙ off)
          | inr apart ↦ and_left (listed y) (kept y) (next.before y h (omega arith))
        ]

  pub member_ends : (from end : ℕ) (best : Option ℕ) → best ≡ first before from both → from ≤ end → NextBelow listed from end None → best ≡ first before end both
  member_ends from end best e low none = e ∙ sym (first_cut before both from end low (λ y h l. and_left (listed y) (kept y) (none y h l)))

module _ {S : Type 0} (reliable : S → Type 0) (member : S → ℕ → Bool) (set : S) where
  -- where an iterator over a set goes on, once it gave x
  pub member_on : (end x : ℕ) {v w : MembersInOrder S} → GivesNext reliable member v (Some x) w → v.set ≡ set → v.end ≡ end → (w.set ≡ set) × (w.end ≡ end) × (w.from ≤ end) × (w.from ≡ x + 1)
  member_on end x {v} {w} step same stop =
      let on = ap (λ (s : MembersInOrder S). s.from) step.after in
      (ap (λ (s : MembersInOrder S). s.set) step.after ∙ same, ap (λ (s : MembersInOrder S). s.end) step.after ∙ stop, omega (arith, on, step.within, stop), on)

  -- what a step of an iterator says of its set
  pub step_next : {v w : MembersInOrder S} {r : Option ℕ} → GivesNext reliable member v r w → v.set ≡ set → reliable set → NextBelow (member set) v.from v.end r
  step_next {v} {w} {r} step same sure = subst (λ (s : S). NextBelow (member s) v.from v.end r) same (step.next (subst reliable (sym same) sure))

-- the best of the loads that are linked to a, where the links came from their making
pub linked_best : {L : Type 0} (made : L → Type 0) (graph : L → Graph) (answers : ℕ → Bool → Type 0) (before : ℕ → ℕ → Bool) (links : L) (a : ℕ) (w : MembersInOrder (LinkedTo L)) {r : Option ℕ} →
    Over links a 256 w → w.from ≡ 0 → BestOf (λ s. made s.links.now) (λ s. (graph s.links.now).linked s.load) answers before w r → made links → Simple (graph links) →
    (test : ℕ → Bool) → ((x : ℕ) (b : Bool) → answers x b → b ≡ test x) → r ≡ first before (graph links).size (λ x. (graph links).linked a x && test x)
linked_best made graph answers before links a w over begins best sure simple test tells =
    let g = graph links in
    best (subst made (sym over.links_are) sure) begins test tells
    ∙ (λ i. first before (over.end_is i) (λ x. (graph (over.links_are i)).linked (over.load_is i) x && test x))
    ∙ first_cut before (λ x. g.linked a x && test x) g.size 256 simple.small (λ y h _. and_left (g.linked a y) (test y) (past_size g simple a y h))

-- the best of the free loads that a is linked to
pub free_best : (answers : ℕ → Bool → Type 0) (before : ℕ → ℕ → Bool) (t : Tables) (a : ℕ) (w : MembersInOrder FreeLinked) {r : Option ℕ} →
    OverFree t a w → w.from ≡ 0 → BestOf (λ _. Unit {0}) (λ s. free_linked s.tables.now s.load) answers before w r →
    (test : ℕ → Bool) → ((x : ℕ) (b : Bool) → answers x b → b ≡ test x) → r ≡ first before 256 (λ x. free_linked t a x && test x)
free_best answers before t a w over begins best test tells =
    best tt begins test tells ∙ (λ i. first before (over.end_is i) (λ x. free_linked (over.tables_are i) (over.load_is i) x && test x))
