use Rattle.std.proofs.Common.{◌≡◌, length, rules}
use Rattle.audit.proofs.Soundness.{sound_when}
use Rattle.audit.proofs.audit.Goals as goal

pub returns-clause-sound : goal.returns-clause-sound
returns-clause-sound g c = λ made.
    let whole : length c.args.claims.now ≡ (g.L.Links.graph c.args.links.now).size = search rules in
    let simple = c.size.ensures.simple made in
    sound_when (g.L.Links.graph c.args.links.now) simple c.args.claims.now whole c.verdict.result (c.verdict.ensures made simple whole)
