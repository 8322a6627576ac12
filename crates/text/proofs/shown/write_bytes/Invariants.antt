use Rattle.std.proofs.Common.{◌≡◌, ℕ, List, ◌++◌, length, flat_map}
use Rattle.std.specs.Fmt.{HasWritten, IsPlainFormatter}
use Rattle.text.specs.Shown.{shown_byte}
use Rattle.text.proofs.shown.write_bytes.Given as goal

abbrev pub invariant-bytes : goal.invariant-bytes
invariant-bytes g l =
    IsPlainFormatter l.fn.f
    → (done : List ℕ) × HasWritten g.W.Write.write_str_gives l.fn.f done l.f
    × (done ++ flat_map shown_byte l.rest ≡ flat_map shown_byte l.fn.bytes)

abbrev pub decreases-bytes : goal.decreases-bytes
decreases-bytes g l = length l.rest
