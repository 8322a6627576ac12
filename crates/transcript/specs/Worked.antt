-- A stream played through.
use Rattle.std.specs.Prelude.{◌≡◌, ℕ, List, [], ◌∷◌, ◌++◌, length, codes}
use Rattle.rules.specs.Boards.{by_number, fresh}
use Rattle.transcript.specs.Transcript.{played, answered}

-- links 1 and 2, asks for the partner of 1, links 2 and 1 again, asks for the partner of 3, departs
-- with 4, and is cut short
abbrev pub worked : List ℕ
worked =
    (1 ∷ 0 ∷ 1 ∷ 0 ∷ 2 ∷ []) ++ (5 ∷ 0 ∷ 1 ∷ []) ++ (1 ∷ 0 ∷ 2 ∷ 0 ∷ 1 ∷ []) ++ (5 ∷ 0 ∷ 3 ∷ [])
    ++ (4 ∷ 0 ∷ 4 ∷ []) ++ (3 ∷ 0 ∷ [])

-- on a fresh board of four loads
abbrev pub WorkedStream : Type 0
WorkedStream =
    answered (played (length worked) by_number (fresh 4 8) worked 0)
    ≡ codes "ok\nwith 2\nno 06 book 8\nalone\nno 04 board 16\nno 13 stream 19\n1 2\n"
