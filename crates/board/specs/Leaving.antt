-- The links of a load removed, from a book and from the tables.
use Rattle.std.specs.Prelude.{◌≡◌, ℕ}
use Rattle.graph.specs.Graph.{Graph, Simple}
use Rattle.graph.specs.Isolated.{isolated}
use Rattle.links.specs.Books.{Ledger, Stands}
use Rattle.rules.specs.Calls.{released}
use Rattle.tables.specs.declared.Tables.{Tables}
use Rattle.tables.specs.Views.{partners_of, Agrees}

-- a book s and the tables u became t and v: a load a has lost its links, and partners are as they
-- were. The tables agree with the book after it if they did before
pub record LinksRemoved {B : Type 0} (graph : B → Graph) (made : B → Type 0) (ledger : B → Ledger)
    (a : ℕ) (s : B) (u : Tables) (t : B) (v : Tables) : Type 0 where
  pub book : Stands graph made ledger t (isolated (graph s) a) (released (graph s) (ledger s) a)
  pub agrees : Agrees (graph s) u → Agrees (isolated (graph s) a) v
  pub partners : partners_of v ≡ partners_of u

abbrev pub RemovesLinks : {B : Type 0} → (B → Graph) → (B → Type 0) → (B → Ledger) →
    ℕ → B → Tables → B → Tables → Type 0
RemovesLinks graph made ledger a s u t v =
    made s → Simple (graph s) → LinksRemoved graph made ledger a s u t v
