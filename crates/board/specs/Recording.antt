-- Tables in which the links of a book are recorded, link by link.
use Rattle.std.specs.Prelude.{◌≡◌, ℕ, Bool, ◌&&◌, ◌||◌, None, ◌==◌, nat_lt}
use Rattle.graph.specs.Graph.{Graph}
use Rattle.tables.specs.declared.Tables.{Tables}
use Rattle.tables.specs.Views.{partners_of, Agrees}

-- the link of a load `high` with one below it comes before that of a and b: its higher load is
-- below a, or is a and the other below b
abbrev pub comes_before : ℕ → ℕ → ℕ → ℕ → Bool
comes_before a b high low = nat_lt low high && (nat_lt high a || (high == a && nat_lt low b))

-- the links that come before that of a and b
abbrev pub links_before : Graph → ℕ → ℕ → Graph
links_before g a b =
    record {
      size = g.size;
      linked = λ x y. g.linked x y && (comes_before a b x y || comes_before a b y x);
    }

-- the tables agree with the graph g, and all loads are free
pub record AllFree (g : Graph) (t : Tables) : Type 0 where
  pub partners : partners_of t ≡ (λ _. None)
  pub agrees : Agrees g t
