use Rattle.std.proofs.Common.{◌≡◌, ◌≤◌, ℕ, List, ◌++◌, encode_utf8_all}
use Rattle.std.specs.Fmt.{HasWritten, IsPlainFormatter}
use Rattle.std.specs.Char.Escape.{escape_ascii}
use Rattle.std.specs.Char.Iter.{escape_byte_rest, escape_byte_left, escape_byte_end}
use Rattle.text.proofs.shown.write_byte.Given as goal

abbrev pub invariant-escape : goal.invariant-escape
invariant-escape g l =
    (escape_byte_end l.rest ≤ 4)
    × (IsPlainFormatter l.fn.f
    → (done : List ℕ) × HasWritten g.W.Write.write_str_gives l.fn.f done l.f
    × (done ++ encode_utf8_all (escape_byte_rest l.rest) ≡ encode_utf8_all (escape_ascii l.byte)))

abbrev pub decreases-escape : goal.decreases-escape
decreases-escape g l = escape_byte_left l.rest
