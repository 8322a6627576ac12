-- Dropping all links of a load, link by link.
use Rattle.std.specs.Prelude.{◌≡◌, ℕ, zero, suc, if◌then◌else◌}
use Rattle.graph.specs.Graph.{Graph, Simple, removed}
use Rattle.graph.specs.Isolated.{isolated}
use Rattle.links.specs.Books.{Ledger, raised}
use Rattle.rules.specs.Calls.{released}

-- the graph without the links of a with the loads below k, each removed in turn
abbrev pub stripped : Graph → ℕ → ℕ → Graph
stripped g a zero = g
stripped g a (suc k) =
    if g.linked a k then removed (stripped g a k) a k else stripped g a k

-- the ledger raised for each of them
abbrev pub stripped_ledger : Graph → Ledger → ℕ → ℕ → Ledger
stripped_ledger g l a zero = l
stripped_ledger g l a (suc k) =
    if g.linked a k then raised (stripped_ledger g l a k) a k else stripped_ledger g l a k

pub record OneByOne (g : Graph) (l : Ledger) (a : ℕ) : Type 0 where
  pub graph : stripped g a g.size ≡ isolated g a
  pub ledger : stripped_ledger g l a g.size ≡ released g l a

-- removing the links of a load one by one leaves the graph without them, and the ledger raised for
-- each
abbrev pub LinksOneByOne : Type 0
LinksOneByOne = (g : Graph) → Simple g → (l : Ledger) (a : ℕ) → OneByOne g l a
