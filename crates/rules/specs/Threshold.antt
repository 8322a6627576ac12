-- How many links a free load may have at most; with more it is heavy.
use Rattle.std.specs.Prelude.{ℕ, zero, suc, ◌+◌, ◌*◌, nat_le, if◌then◌else◌}

-- the first of t, t + 1, .. whose square is at least `least`, of `tries` numbers tried
abbrev pub root_from : ℕ → ℕ → ℕ → ℕ
root_from zero t least = t
root_from (suc tries) t least =
    if nat_le least (t * t) then t else root_from tries (t + 1) least

-- the least whole number whose square is at least twice the limit
abbrev pub threshold : ℕ → ℕ
threshold limit = root_from (2 * limit) 0 (2 * limit)
