-- What a verdict is called, for people to read.
use Rattle.std.specs.Prelude.{ℕ, List, ◌++◌, codes, decimal}
use Rattle.audit.specs.declared.Verdict.{Verdict}
use Rattle.audit.specs.declared.Verdict.TheVariants.{Sound, NotReturned, NotLinked, PathOfOne}
use Rattle.audit.specs.declared.Verdict.TheVariants.{PathOfThree}

abbrev pub verdict_text : Verdict → List ℕ
verdict_text Sound = codes "sound: no path of one or three links joins two free loads"
verdict_text (NotReturned a) =
    codes "fault: load " ++ decimal a ++ codes " claims a partner that does not claim it back"
verdict_text (NotLinked a) =
    codes "fault: load " ++ decimal a ++ codes " is not linked to the partner that it claims"
verdict_text (PathOfOne path) =
    codes "fault: " ++ decimal path.0 ++ codes " and " ++ decimal path.1
    ++ codes " are free, and linked"
verdict_text (PathOfThree path) =
    codes "fault: " ++ decimal path.0 ++ codes " and " ++ decimal path.3
    ++ codes " are free, and the path "
    ++ decimal path.0 ++ codes " " ++ decimal path.1 ++ codes " " ++ decimal path.2 ++ codes " "
    ++ decimal path.3 ++ codes " would pair both"
