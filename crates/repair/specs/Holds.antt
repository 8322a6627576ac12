-- What the steps of a repair do to the tables.
use Rattle.std.specs.Prelude.{◌≡◌, ℕ, Bool, is_some}
use Rattle.graph.specs.Graph.{Graph}
use Rattle.graph.specs.Matching.{Partners, Free, Matching}
use Rattle.rules.specs.Repair.{Ranking, light_partner, path_start_of, augment}
use Rattle.tables.specs.declared.Tables.{Tables}
use Rattle.tables.specs.Views.{partners_of, Agrees}

-- the tables agree with the graph g, and hold the matching p
pub record Holds (g : Graph) (p : Partners) (t : Tables) : Type 0 where
  pub partners : partners_of t ≡ p
  pub agrees : Agrees g t
  pub matching : Matching g (partners_of t)

-- where the tables s agreed with g and held a matching, t do with the matching that was changed
abbrev pub Changes : Graph → (Partners → Partners) → Tables → Tables → Type 0
Changes g change s t = Agrees g s → Matching g (partners_of s) → Holds g (change (partners_of s)) t

-- the first augmenting path of three links that begins at a was taken, and r says whether there was
-- one
pub record Augmented (before : Ranking) (g : Graph) (p : Partners) (a : ℕ) (r : Bool) (t : Tables)
    : Type 0 where
  pub found : r ≡ is_some (path_start_of before g p a)
  pub holds : Holds g (augment before g a p) t

abbrev pub Augments : Ranking → Graph → ℕ → Bool → Tables → Tables → Type 0
Augments before g a r s t =
    Free (partners_of s) a → Agrees g s → Matching g (partners_of s)
    → Augmented before g (partners_of s) a r t

-- r says whether x has a partner of at most n links
abbrev pub LightPartner : ℕ → ℕ → Tables → Bool → Type 0
LightPartner n x t r = (g : Graph) → Agrees g t → r ≡ light_partner g n (partners_of t x)
