-- What the steps of an audit answer.
use Rattle.std.specs.Prelude.{◌≡◌, ℕ, length, Option}
use Rattle.graph.specs.Graph.{Graph, Simple}
use Rattle.graph.specs.Matching.{Partners}
use Rattle.audit.specs.declared.Claimed.{Claimed}
use Rattle.audit.specs.Claims.{claimed}
use Rattle.audit.specs.Verdicts.{lowest_path}

-- r is the answer that the links and the claims give, where the links came from their making and
-- each load has a claim
abbrev pub Tells : {L A : Type 0} → (L → Type 0) → (L → Graph) → Claimed L →
    (Graph → Partners → A) → A → Type 0
Tells made graph s answer r =
    made s.links.now → Simple (graph s.links.now)
    → length s.claims.now ≡ (graph s.links.now).size
    → r ≡ answer (graph s.links.now) (claimed s.claims.now)

-- r is the first path of those from a free load that `answers` tells of, with these partners of n
-- loads
abbrev pub LowestPath : {A : Type 0} → ℕ → Partners → (ℕ → Option A → Type 0) → Option A → Type 0
LowestPath {A} n p answers r =
    (path_at : ℕ → Option A) → ((a : ℕ) (o : Option A) → answers a o → o ≡ path_at a)
    → r ≡ lowest_path n p path_at
