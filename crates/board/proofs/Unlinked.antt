-- Two loads unlinked.
use Rattle.std.proofs.Common.{◌≡◌, ℕ, false, Some, None, Ok, sym, refl, ap, ◌∙◌, subst, arith}
use Rattle.graph.specs.Graph.{Graph, Simple, removed}
use Rattle.graph.specs.Matching.{Partners}
use Rattle.graph.proofs.Changes.{removed_simple}
use Rattle.links.specs.Books.{Ledger, Bounded, removing, raised, Stands as BookStands}
use Rattle.links.specs.declared.refusal.Layer.TheVariants.{Board as BoardLayer}
use Rattle.links.proofs.Reasons.{two_granted, removing_none}
use Rattle.rules.specs.Calls.{unlink, reason, in_order, parted}
use Rattle.rules.specs.Repair.{Ranking, repair}
use Rattle.rules.specs.Threshold.{threshold}
use Rattle.rules.proofs.Fewer.{parted_is}
use Rattle.tables.specs.declared.Tables.{Tables}
use Rattle.tables.specs.Views.{partners_of, Agrees}
use Rattle.tables.specs.Changes.{Relinking}
use Rattle.repair.specs.Holds.{Changes}
use Rattle.board.specs.declared.Board.{Board}
use Rattle.board.specs.Boards.{position, Stands, FollowsBook, FollowsRules}
use Rattle.board.specs.Parting.{PartsPartners}
use Rattle.board.proofs.Steps.{granted_book, repaired_rules}

module _ {B R : Type 0} (graph : B → Graph) (made : B → Type 0) (ledger : B → Ledger) (before : R → Ranking) (s : Board B R) (a b : ℕ)
    (none : removing (graph s.book) a b ≡ None) (t : Board B R) (book : BookStands graph made ledger t.book (removed (graph s.book) a b) (raised (ledger s.book) a b)) where
  granted : reason (position graph ledger s) (unlink a b) ≡ None
  granted = let g = graph s.book in two_granted BoardLayer g.size a b (removing g a b) (removing_none g a b none).two ∙ none

  pub unlinked_book : FollowsBook graph made ledger (before s.ranking) s (unlink a b) (Ok tt) t
  unlinked_book = granted_book graph made ledger before s (unlink a b) granted tt t _ refl book

  pub unlinked_rules : Stands graph made ledger s → Bounded (graph t.book) (ledger t.book) → (u w : Tables) → Relinking false a b s.tables u →
      (Simple (graph t.book) → PartsPartners (graph t.book) a b u w) →
      (Simple (graph t.book) → Changes (graph t.book) (repair (before s.ranking) (threshold (ledger t.book).limit) (graph t.book) (in_order a b)) w t.tables) →
      FollowsRules graph made ledger (before s.ranking) s (unlink a b) (Ok tt) t
  unlinked_rules stands bounded u w relinked parts change =
      let g = graph s.book in
      let p = partners_of s.tables in
      let simple = stands.sound.simple in
      let small = simple.small in
      let matching = stands.sound.healthy.matching in
      let removable = removing_none g a b none in
      let two = removable.two in
      let in-a = two.a_below in
      let in_b = two.b_below in
      let simple-removed = subst Simple (sym book.graph_is) (removed_simple g a b simple) in
      let agrees = relinked.agrees g simple in-a in_b two.apart removable.on stands.agrees in
      let back = subst (λ (q : Partners). q a ≡ Some b → q b ≡ Some a) (sym relinked.partners) (matching.returned a b) in
      let done = parts simple-removed (omega arith) (omega arith) two.apart back (subst (λ (k : Graph). Agrees k u) (sym book.graph_is) agrees) in
      repaired_rules graph made ledger before s (unlink a b) granted tt t stands refl
      (removed g a b) (raised (ledger s.book) a b) (in_order a b) (parted a b p (p a)) refl w (record {
        book = book;
        agrees = subst (λ (k : Graph). Agrees k w) book.graph_is done.agrees;
        partners = done.partners ∙ ap (λ (q : Partners). parted a b q (q a)) relinked.partners;
      }) bounded (parted_is g a b p matching).matching (change simple-removed)
