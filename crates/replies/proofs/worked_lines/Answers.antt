use Rattle.std.proofs.Common.{refl}
use Rattle.std.specs.Fmt.{digits}
use Rattle.replies.proofs.worked_lines.Goals as goal

pub returns : goal.returns
unfolding digits
returns c =
    record {
      done = refl;
      alone = refl;
      with_zero = refl;
      with_last = refl;
      same_load = refl;
      load_full = refl;
      longest = refl;
      longest_has = refl;
      pair = refl;
      longest_pair = refl;
    }
