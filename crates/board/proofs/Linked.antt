-- Two loads linked.
use Rattle.std.proofs.Common.{◌≡◌, ℕ, true, None, Ok, sym, refl, ◌∙◌, subst}
use Rattle.std.proofs.lemmas.Bool.{or_left}
use Rattle.graph.specs.Graph.{Graph, Simple, added, is_pair}
use Rattle.graph.specs.Matching.{Partners, Matching}
use Rattle.graph.proofs.Changes.{added_simple}
use Rattle.links.specs.Books.{Ledger, Bounded, adding, lowered, Stands as BookStands}
use Rattle.links.specs.declared.refusal.Layer.TheVariants.{Board as BoardLayer}
use Rattle.links.proofs.Reasons.{two_granted, adding_none}
use Rattle.rules.specs.Calls.{link, reason, in_order}
use Rattle.rules.specs.Repair.{Ranking, repair}
use Rattle.rules.specs.Threshold.{threshold}
use Rattle.tables.specs.declared.Tables.{Tables}
use Rattle.tables.specs.Views.{partners_of}
use Rattle.tables.specs.Changes.{Relinking}
use Rattle.repair.specs.Holds.{Changes}
use Rattle.board.specs.declared.Board.{Board}
use Rattle.board.specs.Boards.{position, Stands, FollowsBook, FollowsRules}
use Rattle.board.proofs.Steps.{granted_book, repaired_rules}

matching_added : (g : Graph) (a b : ℕ) (p : Partners) → Matching g p → Matching (added g a b) p
matching_added g a b p m = record { returned = m.returned; linked = λ x y e. or_left (g.linked x y) (is_pair a b x y) (m.linked x y e) }

module _ {B R : Type 0} (graph : B → Graph) (made : B → Type 0) (ledger : B → Ledger) (before : R → Ranking) (s : Board B R) (a b : ℕ)
    (none : adding (graph s.book) (ledger s.book) a b ≡ None) (t : Board B R) (book : BookStands graph made ledger t.book (added (graph s.book) a b) (lowered (ledger s.book) a b)) where
  granted : reason (position graph ledger s) (link a b) ≡ None
  granted = let g = graph s.book in let l = ledger s.book in
      two_granted BoardLayer g.size a b (adding g l a b) (adding_none g l a b none).two ∙ none

  pub linked_book : FollowsBook graph made ledger (before s.ranking) s (link a b) (Ok tt) t
  linked_book = granted_book graph made ledger before s (link a b) granted tt t _ refl book

  pub linked_rules : Stands graph made ledger s → Bounded (graph t.book) (ledger t.book) → (u : Tables) → Relinking true a b s.tables u →
      (Simple (graph t.book) → Changes (graph t.book) (repair (before s.ranking) (threshold (ledger t.book).limit) (graph t.book) (in_order a b)) u t.tables) →
      FollowsRules graph made ledger (before s.ranking) s (link a b) (Ok tt) t
  linked_rules stands bounded u relinked change =
      let g = graph s.book in
      let l = ledger s.book in
      let p = partners_of s.tables in
      let simple = stands.sound.simple in
      let addable = adding_none g l a b none in
      let two = addable.two in
      let simple-added = added_simple g a b simple two.apart two.a_below two.b_below in
      repaired_rules graph made ledger before s (link a b) granted tt t stands refl (added g a b) (lowered l a b) (in_order a b) p refl u (record {
        book = book;
        agrees = relinked.agrees g simple two.a_below two.b_below two.apart addable.off stands.agrees;
        partners = relinked.partners;
      }) bounded (matching_added g a b p stands.sound.healthy.matching) (change (subst Simple (sym book.graph_is) simple-added))
