-- How an augmenting path of three links is found by the tables.
use Rattle.std.specs.Prelude.{◌≡◌, ℕ, Bool, Some, None, Option, MatchOption}
use Rattle.graph.specs.Graph.{Graph, Simple}
use Rattle.graph.specs.Matching.{Partners}
use Rattle.rules.specs.First.{first}
use Rattle.rules.specs.Repair.{Ranking, any_below, ends_path, path_start_of}
use Rattle.tables.specs.declared.Tables.{Tables}
use Rattle.tables.specs.Views.{partners_of, Agrees}

-- r is the first of the free loads other than a that y is linked to
abbrev pub FirstOther : Ranking → ℕ → ℕ → Tables → Option ℕ → Type 0
FirstOther before y a t r =
    (g : Graph) → Simple g → Agrees g t
    → r ≡ first (before y) g.size (ends_path g (partners_of t) a (Some y))

-- r says whether y is linked to a free load other than a
abbrev pub HasOther : ℕ → ℕ → Tables → Bool → Type 0
HasOther y a t r =
    (g : Graph) → Simple g → Agrees g t
    → r ≡ any_below g.size (ends_path g (partners_of t) a (Some y))

-- r says whether an augmenting path of three links that begins at a goes over x, if a and x are
-- linked
abbrev pub GoesOver : ℕ → ℕ → Tables → Bool → Type 0
GoesOver a x t r =
    (g : Graph) → Simple g → Agrees g t
    → r ≡ any_below g.size (ends_path g (partners_of t) a (partners_of t x))

-- a, x, y, z is the first augmenting path of three links that begins at a
pub record FirstPath (before : Ranking) (g : Graph) (p : Partners) (a x y z : ℕ) : Type 0 where
  pub start : path_start_of before g p a ≡ Some x
  pub pair : p x ≡ Some y
  pub end : first (before y) g.size (ends_path g p a (Some y)) ≡ Some z

-- r is the first augmenting path of three links that begins at a, if there is one
abbrev pub PathIs : Ranking → Graph → Partners → ℕ → Option (ℕ × ℕ × ℕ × ℕ) → Type 0
PathIs before g p a r =
    MatchOption r (path_start_of before g p a ≡ None)
    (λ path. (path.0 ≡ a) × FirstPath before g p a path.1 path.2 path.3)
