-- The best, in a ranking, of the members of a set that pass a test.
use Rattle.std.specs.Prelude.{◌≡◌, ℕ, Bool, ◌&&◌, Option}
use Rattle.graph.specs.Graph.{Graph}
use Rattle.links.specs.declared.members.MembersInOrder.{MembersInOrder}
use Rattle.rules.specs.First.{first}
use Rattle.rules.specs.Repair.{Ranking}

-- r is the first of the members, asked for from 0 on, and that pass the test, which answers as
-- `answers` says
abbrev pub BestOf : {S : Type 0} → (S → Type 0) → (S → ℕ → Bool) → (ℕ → Bool → Type 0)
    → (ℕ → ℕ → Bool) → MembersInOrder S → Option ℕ → Type 0
BestOf reliable member answers before w r =
    reliable w.set → w.from ≡ 0 → (test : ℕ → Bool)
    → ((x : ℕ) (b : Bool) → answers x b → b ≡ test x)
    → r ≡ first before w.end (λ x. member w.set x && test x)

-- r is the first of the loads that a is linked to and that pass the test, which answers as
-- `answers` says
abbrev pub FirstLinked : Ranking → Graph → ℕ → (ℕ → Bool → Type 0) → Option ℕ → Type 0
FirstLinked before g a answers r =
    (test : ℕ → Bool) → ((x : ℕ) (b : Bool) → answers x b → b ≡ test x)
    → r ≡ first (before a) g.size (λ x. g.linked a x && test x)
