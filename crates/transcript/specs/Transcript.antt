-- Every byte that is answered to a stream: the line of each step, and then that of each pair.
use Rattle.std.specs.Prelude.{◌≡◌, ℕ, zero, suc, ◌+◌, List, [], ◌++◌, length, None, Option}
use Rattle.std.specs.Prelude.{◌==◌, if◌then◌else◌}
use Rattle.links.specs.Refusals.{Reason}
use Rattle.commands.specs.Commands.{unless_short}
use Rattle.rules.specs.Boards.{by_number, fresh}
use Rattle.rules.specs.Calls.{Position}
use Rattle.rules.specs.Health.{Sound, TwoThirds}
use Rattle.rules.specs.Repair.{Ranking}
use Rattle.stream.specs.Pairs.{lines_of}
use Rattle.stream.specs.Steps.{Step, step_at}

-- where steps lead, and the lines that they answer
pub record Played : Type 0 where
  pub position : Position
  pub text : List ℕ

-- a step y from a place, and then the rest, unless the place stays
abbrev pub and_then : ℕ → Step → Played → Played
and_then place y rest =
    if y.place == place then record { position = y.position; text = y.line }
    else record { position = rest.position; text = y.line ++ rest.text }

-- steps from a place on until the place stays, and at most n
unfoldable pub played : ℕ → Ranking → Position → List ℕ → ℕ → Played
played zero before x stream place = record { position = x; text = [] }
played (suc n) before x stream place =
    and_then place (step_at before x stream place)
    (played n before (step_at before x stream place).position stream
    (step_at before x stream place).place)

-- as many steps as the stream has bytes are enough: more lead nowhere else
abbrev pub PlayedOut : Type 0
PlayedOut =
    (before : Ranking) (x : Position) (stream : List ℕ) (more : ℕ) →
    played (length stream + more) before x stream 0 ≡ played (length stream) before x stream 0

-- a fresh board of 256 loads and at most 2,048 links
unfoldable pub start : Position
start = fresh 256 2048

-- the lines of the steps, and then those of the pairs that they lead to
abbrev pub answered : Played → List ℕ
answered y = y.text ++ lines_of y.position

-- the whole input played on such a board, the lower number first
unfoldable pub transcript : List ℕ → List ℕ
transcript input = answered (played (length input) by_number start input 0)

-- 3: the input is too long for a stream
abbrev pub transcribing : List ℕ → Option Reason
transcribing input = unless_short input None

-- ---- the law of runs

-- the position after n steps of the play of an input
abbrev pub moment : List ℕ → ℕ → Position
moment input n = (played n by_number start input 0).position

-- at every moment of the play, the last one too, whose pairs are listed: partners are mutual and
-- linked, no augmenting path has one or three links, no free load has more links than the
-- threshold, and three times the pairs is at least twice those of every matching of the links that
-- are left
pub record KeepsLaw (input : List ℕ) : Type 0 where
  pub sound : (n : ℕ) → Sound (moment input n)
  pub two_thirds : (n : ℕ) → TwoThirds (moment input n)
  pub listed : transcript input ≡ (played (length input) by_number start input 0).text
      ++ lines_of (moment input (length input))
