-- What a failure is called, for people to read.
use Rattle.std.specs.Prelude.{ℕ, List, ◌++◌, codes, decimal}
use Rattle.links.specs.Refusals.{meaning}
use Rattle.transcript.specs.declared.Failure.{Failure}
use Rattle.transcript.specs.declared.Failure.TheVariants.{Input, Memory}

abbrev pub failure_text : Failure → List ℕ
failure_text (Input e) = codes "refused with " ++ decimal (meaning e.refusal).0
failure_text Memory = codes "no memory is left"
