-- A path of four loads of which only the middle two claim each other. The claim of none stands here
-- as its number.
use Rattle.std.specs.Prelude.{◌≡◌, [], ◌∷◌}
use Rattle.graph.specs.Graph.{Graph, no_links, added}
use Rattle.audit.specs.declared.Verdict.TheVariants.{PathOfThree}
use Rattle.audit.specs.Claims.{claimed}
use Rattle.audit.specs.Verdicts.{meaning, verdict}

abbrev pub four_in_a_row : Graph
four_in_a_row = added (added (added (no_links 4) 0 1) 1 2) 2 3

abbrev pub MiddleClaimed : Type 0
MiddleClaimed =
    verdict four_in_a_row (claimed (65535 ∷ 2 ∷ 1 ∷ 65535 ∷ []))
    ≡ meaning (PathOfThree (0, 1, 2, 3))
