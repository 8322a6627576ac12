-- A load departed with its partner.
use Rattle.std.proofs.Common.{◌≡◌, ℕ, cond, not, is_some, Some, None, Ok, Option, refl, ap, ◌∙◌, arith}
use Rattle.graph.specs.Graph.{Graph, Simple}
use Rattle.graph.specs.Isolated.{isolated}
use Rattle.graph.proofs.Changes.{isolated_simple}
use Rattle.links.specs.Books.{Ledger}
use Rattle.rules.specs.Calls.{Position, depart, reason, by_board, unless_load, parted_from, isolated_two, released, released_two}
use Rattle.rules.specs.Repair.{Ranking, freed}
use Rattle.tables.specs.declared.Tables.{Tables}
use Rattle.tables.specs.Views.{partners_of}
use Rattle.tables.specs.Changes.{OfLinks, Parting}
use Rattle.board.specs.declared.Board.{Board}
use Rattle.board.specs.Boards.{position, Stands, FollowsBook, FollowsRules}
use Rattle.board.specs.Leaving.{RemovesLinks}
use Rattle.board.proofs.Steps.{granted_book, granted_rules}
use Rattle.board.proofs.Leaving.{fewer_links, book_left, in_step, partners_two, links_removed, partners_parted}

module _ {B R : Type 0} (graph : B → Graph) (made : B → Type 0) (ledger : B → Ledger) (before : R → Ranking) (s : Board B R) (a b : ℕ)
    (none : unless_load (graph s.book) a None ≡ None) (pair : partners_of s.tables a ≡ Some b)
    (k : B) (u v : Tables) (t : Board B R) (removes-a : RemovesLinks graph made ledger a s.book s.tables k u) (removes-b : RemovesLinks graph made ledger b k u t.book v) where
  abbrev g : Graph
  g = graph s.book

  abbrev l : Ledger
  l = ledger s.book

  abbrev as_by_rules : Option ℕ → Position
  as_by_rules o = record { graph = isolated_two g a o; ledger = released_two g l a o; partners = parted_from a (partners_of s.tables) o }

  granted : reason (position graph ledger s) (depart a) ≡ None
  granted = ap (λ (o : Option ℕ). unless_load g a (cond (not (is_some o)) (by_board 11) None)) pair ∙ none

  pub departed_book : made s.book → Simple g → FollowsBook graph made ledger (before s.ranking) s (depart a) (Ok tt) t
  departed_book m simple =
      granted_book graph made ledger before s (depart a) granted tt t (as_by_rules (Some b)) (ap as_by_rules pair)
      (book_left graph made ledger (isolated g a) (isolated_simple g a simple) (released g l a) b k u (removes-a m simple).book t.book v removes-b)

  pub departed_rules : Stands graph made ledger s → OfLinks (made t.book) (graph t.book) (λ h. Parting h a b v t.tables) →
      FollowsRules graph made ledger (before s.ranking) s (depart a) (Ok tt) t
  departed_rules stands parts =
      let p = partners_of s.tables in
      let simple = stands.sound.simple in
      let simple-a = isolated_simple g a simple in
      let two = partners_two graph made ledger s stands a b pair in
      let left-a = links_removed graph made ledger g simple l p s.book s.tables (in_step graph made ledger s stands) a k u removes-a in
      let left-b = links_removed graph made ledger (isolated g a) simple-a (released g l a) p k u left-a b t.book v removes-b in
      let h = isolated (isolated g a) b in
      let m = released (isolated g a) (released g l a) b in
      let fewer-a = fewer_links g simple a two.a_below in
      let fewer-b = fewer_links (isolated g a) simple-a b two.b_below in
      granted_rules graph made ledger before s (depart a) granted tt t stands refl h m (freed a (freed b p)) (ap as_by_rules pair)
      (partners_parted graph made ledger h (isolated_simple (isolated g a) b simple-a) m p t.book v left-b a b two pair (stands.sound.healthy.matching.returned a b pair) t.tables parts)
      (omega (arith, fewer-a, fewer-b, stands.sound.bounded.within))
