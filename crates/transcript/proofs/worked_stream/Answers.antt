use Rattle.std.proofs.Common.{refl}
use Rattle.std.specs.Fmt.{digits}
use Rattle.transcript.specs.Transcript.{played}
use Rattle.transcript.proofs.worked_stream.Goals as goal

pub returns : goal.returns
unfolding played digits
returns c = refl
