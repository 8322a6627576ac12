-- The links of a load removed one by one, from a book and from the tables.
use Rattle.std.proofs.Common.{◌≡◌, ℕ, ◌+◌, ◌<◌, ◌≤◌, false, is_some, Some, None, sym, refl, ap, ◌∙◌, subst, arith}
use Rattle.std.proofs.lemmas.Bool.{both_ways, cond-true}
use Rattle.graph.specs.Graph.{Graph, Simple, First, link_count, removed}
use Rattle.graph.specs.Isolated.{isolated}
use Rattle.graph.specs.Matching.{Partners}
use Rattle.graph.proofs.Changes.{link_count_isolated}
use Rattle.graph.proofs.Partners.{partner_below}
use Rattle.graph.proofs.Paths.{linked_apart}
use Rattle.links.specs.Books.{Ledger, Stands, raised, removing}
use Rattle.links.specs.Refusals.{Reason}
use Rattle.links.specs.declared.refusal.Layer.TheVariants.{Book}
use Rattle.links.proofs.Reasons.{TwoLoads, two_granted}
use Rattle.rules.specs.Calls.{released}
use Rattle.rules.specs.Repair.{freed}
use Rattle.rules.specs.OneByOne.{stripped, stripped_ledger}
use Rattle.rules.proofs.OneByOne.{stripped_size}
use Rattle.tables.specs.declared.Tables.{Tables}
use Rattle.tables.specs.Views.{partners_of, Agrees}
use Rattle.tables.specs.Changes.{OfLinks, Relinking, Parting}
use Rattle.board.specs.declared.Board.{Board}
use Rattle.board.specs.Boards.{Stands as BoardStands}
use Rattle.board.specs.Leaving.{LinksRemoved, RemovesLinks}
use Rattle.board.proofs.Stripped.{stripped_simple, strip_more, strip_all}

module _ (g : Graph) (simple : Simple g) (a from b : ℕ) (next : First (g.linked a) from b) where
  next_two : TwoLoads g.size a b
  next_two = record {
    a_below = simple.below a b next.hit;
    b_below = simple.below b a (simple.symmetric b a ∙ next.hit);
    apart = linked_apart g simple a b next.hit;
  }

  next_removable : removing g a b ≡ None
  next_removable = two_granted Book g.size a b _ next_two ∙ cond-true (g.linked a b) _ _ next.hit

module _ {B : Type 0} (graph : B → Graph) (made : B → Type 0) (ledger : B → Ledger) (a : ℕ) (start : B) (before : Tables) (simple : Simple (graph start)) where
  abbrev g : Graph
  g = graph start

  abbrev l : Ledger
  l = ledger start

  -- the links of a with the loads below `from` are removed, from the book `start` and from the tables `before`
  pub record RemovedBelow (from : ℕ) (s : B) (u : Tables) : Type 0 where
    pub within : from ≤ g.size
    pub book : Stands graph made ledger s (stripped g a from) (stripped_ledger g l a from)
    pub agrees : Agrees g before → Agrees (stripped g a from) u
    pub partners : partners_of u ≡ partners_of before

  module _ (from : ℕ) (s : B) (u : Tables) (so_far : RemovedBelow from s u) where
    pub now_simple : Simple (graph s)
    now_simple = subst Simple (sym so_far.book.graph_is) (stripped_simple g a simple from)

    -- a link that the loop comes to can be removed
    pub never_refused : (b : ℕ) → First ((graph s).linked a) from b → (r : Reason) → removing (graph s) a b ≡ Some r → ⊥
    never_refused b next r why = both_ways (is_some (removing (graph s) a b)) (ap is_some (next_removable (graph s) now_simple a from b next)) (ap is_some why)

    pub remove_more : (b : ℕ) → First ((graph s).linked a) from b → (t : B) (v : Tables) → Stands graph made ledger t (removed (graph s) a b) (raised (ledger s) a b) →
        Relinking false a b u v → RemovedBelow (b + 1) t v
    remove_more b next t v book relinked =
        let k = stripped g a from in
        let k-simple = stripped_simple g a simple from in
        let first = subst (λ (h : Graph). First (h.linked a) from b) so_far.book.graph_is next in
        let two = next_two k k-simple a from b first in
        let more = strip_more g a from b first l in
        record {
          within = omega (arith, two.b_below, stripped_size g simple a from);
          book = record {
            graph_is = book.graph_is ∙ ap (λ (h : Graph). removed h a b) so_far.book.graph_is ∙ more.0;
            ledger_is = book.ledger_is ∙ ap (λ (m : Ledger). raised m a b) so_far.book.ledger_is ∙ more.1;
            still_made = book.still_made;
          };
          agrees = λ agrees. subst (λ (h : Graph). Agrees h v) more.0
              (relinked.agrees k k-simple two.a_below two.b_below two.apart first.hit (so_far.agrees agrees));
          partners = relinked.partners ∙ so_far.partners;
        }

    pub remove_all : ((j : ℕ) → from ≤ j → (graph s).linked a j ≡ false) → LinksRemoved graph made ledger a start before s u
    remove_all none =
        let past = subst (λ (h : Graph). (j : ℕ) → from ≤ j → h.linked a j ≡ false) so_far.book.graph_is none in
        let all = strip_all g a simple from so_far.within past l in
        record {
          book = record { graph_is = so_far.book.graph_is ∙ all.0; ledger_is = so_far.book.ledger_is ∙ all.1; still_made = so_far.book.still_made };
          agrees = λ agrees. subst (λ (h : Graph). Agrees h u) all.0 (so_far.agrees agrees);
          partners = so_far.partners;
        }

-- ---- what a book and tables that are in step become

-- the book s stands for the graph g and the ledger l, and the tables u agree with g and have the partners p
pub record InStep {B : Type 0} (graph : B → Graph) (made : B → Type 0) (ledger : B → Ledger) (g : Graph) (l : Ledger) (p : Partners) (s : B) (u : Tables) : Type 0 where
  pub book : Stands graph made ledger s g l
  pub agrees : Agrees g u
  pub partners : partners_of u ≡ p

pub fewer_links : (g : Graph) → Simple g → (a : ℕ) → a < g.size → link_count (isolated g a) ≤ link_count g
fewer_links g simple a below = omega (arith, link_count_isolated g a simple below)

-- the links of a load removed from a book that stood for a graph and a ledger
pub book_left : {B : Type 0} (graph : B → Graph) (made : B → Type 0) (ledger : B → Ledger) (g : Graph) → Simple g → (l : Ledger) (a : ℕ) (s : B) (u : Tables) →
    Stands graph made ledger s g l → (t : B) (v : Tables) → RemovesLinks graph made ledger a s u t v → Stands graph made ledger t (isolated g a) (released g l a)
book_left graph made ledger g simple l a s u book t v removes =
    let done = removes book.still_made (subst Simple (sym book.graph_is) simple) in
    record {
      graph_is = done.book.graph_is ∙ ap (λ (h : Graph). isolated h a) book.graph_is;
      ledger_is = done.book.ledger_is ∙ (λ i. released (book.graph_is i) (book.ledger_is i) a);
      still_made = done.book.still_made;
    }

module _ {B R : Type 0} (graph : B → Graph) (made : B → Type 0) (ledger : B → Ledger) (s : Board B R) (stands : BoardStands graph made ledger s) where
  pub in_step : InStep graph made ledger (graph s.book) (ledger s.book) (partners_of s.tables) s.book s.tables
  in_step = record {
    book = record { graph_is = refl; ledger_is = refl; still_made = stands.book_made };
    agrees = stands.agrees;
    partners = refl;
  }

  pub partners_two : (a b : ℕ) → partners_of s.tables a ≡ Some b → TwoLoads (graph s.book).size a b
  partners_two a b pair =
      let g = graph s.book in
      let p = partners_of s.tables in
      let simple = stands.sound.simple in
      let matching = stands.sound.healthy.matching in
      record {
        a_below = partner_below g p matching simple b a (matching.returned a b pair);
        b_below = partner_below g p matching simple a b pair;
        apart = linked_apart g simple a b (matching.linked a b pair);
      }

module _ {B : Type 0} (graph : B → Graph) (made : B → Type 0) (ledger : B → Ledger) (g : Graph) (simple : Simple g) (l : Ledger) (p : Partners) (s : B) (u : Tables)
    (so : InStep graph made ledger g l p s u) where
  graph_simple : Simple (graph s)
  graph_simple = subst Simple (sym so.book.graph_is) simple

  agrees_now : Agrees (graph s) u
  agrees_now = subst (λ (h : Graph). Agrees h u) (sym so.book.graph_is) so.agrees

  pub links_removed : (a : ℕ) (t : B) (v : Tables) → RemovesLinks graph made ledger a s u t v → InStep graph made ledger (isolated g a) (released g l a) p t v
  links_removed a t v removes =
      let done = removes so.book.still_made graph_simple in
      record {
        book = book_left graph made ledger g simple l a s u so.book t v removes;
        agrees = subst (λ (h : Graph). Agrees (isolated h a) v) so.book.graph_is (done.agrees agrees_now);
        partners = done.partners ∙ so.partners;
      }

  pub partners_parted : (a b : ℕ) → TwoLoads g.size a b → p a ≡ Some b → p b ≡ Some a → (v : Tables) →
      OfLinks (made s) (graph s) (λ h. Parting h a b u v) → InStep graph made ledger g l (freed a (freed b p)) s v
  partners_parted a b two pair back v parts =
      let part = parts so.book.still_made graph_simple in
      let of-p = sym so.partners in
      let agrees = part.agrees two.apart (subst (λ (q : Partners). q a ≡ Some b) of-p pair) (subst (λ (q : Partners). q b ≡ Some a) of-p back) agrees_now in
      record {
        book = so.book;
        agrees = subst (λ (h : Graph). Agrees h v) so.book.graph_is agrees;
        partners = part.partners (omega (arith, two.a_below, simple.small)) (omega (arith, two.b_below, simple.small)) ∙ ap (λ (q : Partners). freed a (freed b q)) so.partners;
      }
