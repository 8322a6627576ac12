-- A load withdrawn.
use Rattle.std.proofs.Common.{◌≡◌, ℕ, [], ◌∷◌, Some, None, Ok, Option, sym, refl, ap, subst, arith}
use Rattle.graph.specs.Graph.{Graph, Simple}
use Rattle.graph.specs.Isolated.{isolated}
use Rattle.graph.proofs.Changes.{isolated_simple}
use Rattle.links.specs.Books.{Ledger, Bounded}
use Rattle.std.specs.Option.{option_to_list}
use Rattle.rules.specs.Calls.{Position, withdraw, unless_load, parted_from, released, repaired}
use Rattle.rules.specs.Repair.{Ranking, repair, freed}
use Rattle.rules.specs.Threshold.{threshold}
use Rattle.rules.proofs.Fewer.{withdraw_fewer}
use Rattle.rules.proofs.Reasons.{load_none}
use Rattle.tables.specs.declared.Tables.{Tables}
use Rattle.tables.specs.Views.{partners_of}
use Rattle.tables.specs.Changes.{OfLinks, Parting}
use Rattle.repair.specs.Holds.{Changes}
use Rattle.board.specs.declared.Board.{Board}
use Rattle.board.specs.Boards.{Stands, FollowsBook, FollowsRules}
use Rattle.board.specs.Leaving.{RemovesLinks}
use Rattle.board.proofs.Steps.{granted_book, granted_rules, repaired_rules}
use Rattle.board.proofs.Leaving.{InStep, fewer_links, in_step, partners_two, links_removed, partners_parted}

module _ {B R : Type 0} (graph : B → Graph) (made : B → Type 0) (ledger : B → Ledger) (before : R → Ranking) (s : Board B R)
    (a : ℕ) (none : unless_load (graph s.book) a None ≡ None) (t : Board B R) where
  abbrev g : Graph
  g = graph s.book

  abbrev as_by_rules : Option ℕ → Position
  as_by_rules o = repaired (before s.ranking) (isolated g a) (released g (ledger s.book) a) (option_to_list o) (parted_from a (partners_of s.tables) o)

  pub withdrawn_book : made s.book → Simple g → (u : Tables) → RemovesLinks graph made ledger a s.book s.tables t.book u →
      FollowsBook graph made ledger (before s.ranking) s (withdraw a) (Ok tt) t
  withdrawn_book m simple u removes =
      granted_book graph made ledger before s (withdraw a) none tt t (as_by_rules (partners_of s.tables a)) refl (removes m simple).book

  module _ (stands : Stands graph made ledger s) where
    links_left : (u : Tables) → RemovesLinks graph made ledger a s.book s.tables t.book u →
        InStep graph made ledger (isolated g a) (released g (ledger s.book) a) (partners_of s.tables) t.book u
    links_left = links_removed graph made ledger g stands.sound.simple (ledger s.book) (partners_of s.tables) s.book s.tables (in_step graph made ledger s stands) a t.book

    pub withdrawn_free : partners_of s.tables a ≡ None → RemovesLinks graph made ledger a s.book s.tables t.book t.tables →
        FollowsRules graph made ledger (before s.ranking) s (withdraw a) (Ok tt) t
    withdrawn_free free removes =
        let fewer = fewer_links g stands.sound.simple a (load_none g a None none).0 in
        granted_rules graph made ledger before s (withdraw a) none tt t stands refl (isolated g a) (released g (ledger s.book) a) (partners_of s.tables) (ap as_by_rules free)
        (links_left t.tables removes) (omega (arith, fewer, stands.sound.bounded.within))

    pub withdrawn_partner : (b : ℕ) → partners_of s.tables a ≡ Some b → (u v : Tables) → RemovesLinks graph made ledger a s.book s.tables t.book u →
        OfLinks (made t.book) (graph t.book) (λ h. Parting h a b u v) →
        (made t.book → Bounded (graph t.book) (ledger t.book)) →
        OfLinks (made t.book) (graph t.book) (λ h. Changes h (repair (before s.ranking) (threshold (ledger t.book).limit) h (option_to_list (Some b))) v t.tables) →
        FollowsRules graph made ledger (before s.ranking) s (withdraw a) (Ok tt) t
    withdrawn_partner b pair u v removes parts bounded change =
        let p = partners_of s.tables in
        let h = isolated g a in
        let l = released g (ledger s.book) a in
        let simple = isolated_simple g a stands.sound.simple in
        let matching = stands.sound.healthy.matching in
        let left = links_left u removes in
        let still = left.book.still_made in
        repaired_rules graph made ledger before s (withdraw a) none tt t stands refl h l (b ∷ []) (freed a (freed b p)) (ap as_by_rules pair) v
        (partners_parted graph made ledger h simple l p t.book u left a b (partners_two graph made ledger s stands a b pair) pair (matching.returned a b pair) v parts)
        (bounded still) (withdraw_fewer g stands.sound.simple a p matching (Some b) pair).matching
        (change still (subst Simple (sym left.book.graph_is) simple))
