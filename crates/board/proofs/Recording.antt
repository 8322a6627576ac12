-- The links of a graph, recorded one after another.
use Rattle.std.proofs.Common.{◌≡◌, ℕ, ◌+◌, ◌<◌, ◌≤◌, true, false, Option, sym, ap, ◌∙◌, subst, inl, inr, arith}
use Rattle.std.proofs.lemmas.Bool.{cases_eq}
use Rattle.std.proofs.lemmas.Bool.Decides.{nat_tests}
use Rattle.graph.specs.Graph.{Graph, Simple, First, added, no_links, NextBelow}
use Rattle.links.specs.declared.members.MembersInOrder.{MembersInOrder}
use Rattle.links.specs.declared.members.LinkedTo.{LinkedTo}
use Rattle.links.specs.InOrder.{past, GivesNext, Over}
use Rattle.tables.specs.declared.Tables.{Tables}
use Rattle.tables.specs.Views.{Agrees, New}
use Rattle.tables.specs.Changes.{Relinking}
use Rattle.board.specs.Recording.{links_before, AllFree}

-- an iterator over the loads that are linked to a goes on from past the one that it gave
pub linked_step : {L : Type 0} (made : L → Type 0) (graph : L → Graph) (links : L) (a end : ℕ) {v w : MembersInOrder (LinkedTo L)} {r : Option ℕ} → Over links a end v →
    GivesNext (λ s. made s.links.now) (λ s. (graph s.links.now).linked s.load) v r w → Over links a end w × (w.from ≡ past v.from r) × (made links → NextBelow ((graph links).linked a) v.from end r)
linked_step {L} made graph links a end {v} {w} {r} over step = (
  rw step.after (record { links_are = over.links_are; load_is = over.load_is; end_is = over.end_is }),
  ap (λ (s : MembersInOrder (LinkedTo L)). s.from) step.after,
  λ sure. subst (λ (T : Type 0). T) (λ i. NextBelow ((graph (over.links_are i)).linked (over.load_is i)) v.from (over.end_is i) r)
      (step.next (subst made (sym over.links_are) sure)),
)

module _ (g : Graph) (s : Simple g) where
  before_simple : (a b : ℕ) → Simple (links_before g a b)
  before_simple a b = record {
    small = s.small;
    loopless = λ u. let e = s.loopless u in grind (arith, nat_tests);
    symmetric = λ u v. let e = s.symmetric u v in grind (arith, nat_tests);
    below = λ u v e. let f = s.below u v in grind (arith, nat_tests);
  }

  none_before : (x y : ℕ) → false ≡ (links_before g 0 0).linked x y
  none_before x y = grind (arith, nat_tests)

  all_before : (x y : ℕ) → (links_before g g.size 0).linked x y ≡ g.linked x y
  all_before x y =
      let in-x = s.below x y in
      let in-y = s.below y x in
      let turned = s.symmetric x y in
      elim (cases_eq x y) [ inl e ↦ rw e (let none = s.loopless y in grind (arith, nat_tests)) | inr e ↦ grind (arith, nat_tests) ]

  module _ (a from : ℕ) where
    row_done : ((j : ℕ) → from ≤ j → j < a → g.linked a j ≡ false) → (x y : ℕ) → (links_before g a from).linked x y ≡ (links_before g (a + 1) 0).linked x y
    row_done none x y = elim (cases_eq x a) [
      | inl e ↦ rw e (let off = none y in grind (arith, nat_tests))
      | inr e ↦ elim (cases_eq y a) [
        | inl f ↦ rw f (let off = none x in let turned = s.symmetric x a in grind (arith, nat_tests))
        | inr f ↦ grind (arith, nat_tests)
      ]
    ]

    module _ (k : ℕ) (next : First (g.linked a) from k) (low : k < a) where
      row_more : (x y : ℕ) → (added (links_before g a from) a k).linked x y ≡ (links_before g a (k + 1)).linked x y
      row_more x y =
          let past = next.past in
          let hit = next.hit in
          elim (cases_eq x a) [
            | inl e ↦ rw e (let off = next.before y in elim (cases_eq y k) [ inl f ↦ rw f (grind (arith, nat_tests)) | inr f ↦ grind (arith, nat_tests) ])
            | inr e ↦ elim (cases_eq y a) [
              | inl f ↦ rw f (let off = next.before x in let turned = s.symmetric x a in
                  elim (cases_eq x k) [ inl h ↦ rw h (let back = s.symmetric k a in grind (arith, nat_tests)) | inr h ↦ grind (arith, nat_tests) ])
              | inr f ↦ grind (arith, nat_tests)
            ]
          ]

      pub record_more : {t u : Tables} → a < g.size → AllFree (links_before g a from) t → Relinking true a k t u → AllFree (links_before g a (k + 1)) u
      record_more {t} {u} inside so_far change =
          let past = next.past in
          let off : (links_before g a from).linked a k ≡ false = grind (arith, nat_tests) in
          let same : added (links_before g a from) a k ≡ links_before g a (k + 1) = λ i. record { size = g.size; linked = λ x y. row_more x y i } in
          record {
            partners = change.partners ∙ so_far.partners;
            agrees = subst (λ (h : Graph). Agrees h u) same
                (change.agrees (links_before g a from) (before_simple a from) inside (omega arith) (λ e. omega arith) off so_far.agrees);
          }

    pub record_row : {t : Tables} → ((j : ℕ) → from ≤ j → j < a → g.linked a j ≡ false) → AllFree (links_before g a from) t → AllFree (links_before g (a + 1) 0) t
    record_row {t} none so_far =
        let same : links_before g a from ≡ links_before g (a + 1) 0 = λ i. record { size = g.size; linked = λ x y. row_done none x y i } in
        subst (λ (h : Graph). AllFree h t) same so_far

  pub record_none : {t : Tables} → New t → AllFree (links_before g 0 0) t
  record_none {t} new =
      let same : no_links g.size ≡ links_before g 0 0 = λ i. record { size = g.size; linked = λ x y. none_before x y i } in
      record { partners = new.partners; agrees = subst (λ (h : Graph). Agrees h t) same (new.agrees g.size) }

  pub record_all : {t : Tables} (n : ℕ) → n ≡ g.size → AllFree (links_before g n 0) t → AllFree g t
  record_all {t} n e done =
      let same : links_before g g.size 0 ≡ g = λ i. record { size = g.size; linked = λ x y. all_before x y i } in
      subst (λ (h : Graph). AllFree h t) same (subst (λ (j : ℕ). AllFree (links_before g j 0) t) e done)
