use Rattle.std.proofs.Common.{◌≡◌, ℕ, ◌≤◌, ◌-◌, List, [], ◌∷◌, ◌++◌, length, take, drop, get_or, flat_map, ap, ◌∙◌, append_assoc, arith, rules, take_all}
use Rattle.std.proofs.Output.{has_written_append}
use Rattle.text.specs.Shown.{shown_byte}
use Rattle.text.proofs.shown.write_bytes.Goals as goal

-- the first byte, and then those after it
first_shown : (bs : List ℕ) → 1 ≤ length bs → shown_byte (get_or bs 0 0) ++ flat_map shown_byte (take (length bs - 1) (drop 1 bs)) ≡ flat_map shown_byte bs
first_shown [] some = absurd (omega arith)
first_shown (b ∷ bs) some = ap (λ l. shown_byte b ++ flat_map shown_byte l) (take_all (length (b ∷ bs) - 1) bs (omega arith))

pub bytes-preserved : goal.bytes-preserved
bytes-preserved g c =
    λ plain.
    let now = c.bytes.invariant plain in
    let bs = c.bytes.rest.now in (
      now.0 ++ shown_byte (get_or bs 0 0),
      has_written_append _ _ _ _ _ _ now.1 (search rules),
      append_assoc now.0 (shown_byte (get_or bs 0 0)) _ ∙ (ap (λ l. now.0 ++ l) (first_shown bs c.in-len1-up.len_at_least) ∙ now.2),
    )
