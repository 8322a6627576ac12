-- What sound claims are.
use Rattle.std.specs.Prelude.{◌≡◌, ℕ, List, length, Ok, Result}
use Rattle.graph.specs.Graph.{Graph}
use Rattle.graph.specs.Matching.{Matching, NoAugmenting}
use Rattle.links.specs.declared.refusal.Refused.{Refused}
use Rattle.audit.specs.declared.Verdict.{Verdict}
use Rattle.audit.specs.declared.Verdict.TheVariants.{Sound}
use Rattle.audit.specs.Claims.{claimed}

-- each load has a claim, and the claims are a matching without augmenting paths of one or three
-- links
pub record SoundClaims (g : Graph) (claims : List ℕ) : Type 0 where
  pub whole : length claims ≡ g.size
  pub matching : Matching g (claimed claims)
  pub none_of_one : NoAugmenting g (claimed claims) 1
  pub none_of_three : NoAugmenting g (claimed claims) 3

-- the answer is sound exactly where the claims are
pub record SoundWhen (g : Graph) (claims : List ℕ) (r : Result Verdict Refused) : Type 0 where
  pub sound : r ≡ Ok Sound → SoundClaims g claims
  pub complete : SoundClaims g claims → r ≡ Ok Sound
