use Rattle.std.proofs.Common.{arith, sym, length-take-le}
use Rattle.text.proofs.shown.QuotedDisplay.fmt.Goals as goal

pub slice_bounds-write-end : goal.slice_bounds-write-end
slice_bounds-write-end g c =
    sym (length-take-le 60 c.args.self.now.0.now (omega (arith, c.if-line-gt-LONGEST_SHOWN.true)))
