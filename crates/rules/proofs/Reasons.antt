-- A call that is granted or refused.
use Rattle.std.proofs.Common.{◌≡◌, ℕ, ◌<◌, leb, Some, None, Option, refl}
use Rattle.std.proofs.lemmas.Bool.{leb-false}
use Rattle.graph.specs.Graph.{Graph}
use Rattle.links.specs.Refusals.{Reason}
use Rattle.links.proofs.Reasons.{cond_none}
use Rattle.rules.specs.Calls.{Position, unless, unless_load}

pub load_none : (g : Graph) (a : ℕ) (o : Option Reason) → unless_load g a o ≡ None → (a < g.size) × (o ≡ None)
load_none g a o e = let (past, rest) = cond_none (leb g.size a) _ _ e in (leb-false g.size a past, rest)

-- what holds of the position as it was, and of the other where the call is granted, holds after the call
pub by_reason : (P : Option Reason → Position → Type 0) (o : Option Reason) (x y : Position) →
    ((r : Reason) → o ≡ Some r → P (Some r) x) → (o ≡ None → P None y) → P o (unless o x y)
by_reason P None x y refused granted = granted refl
by_reason P (Some r) x y refused granted = refused r refl
