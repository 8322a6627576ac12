-- How a stream of commands is played on a board, a command at a time, and the lines that are
-- answered.
use Rattle.std.specs.Prelude.{◌≡◌, ℕ, ◌+◌, ◌≤◌, List, [], ◌++◌, length, drop, Some, None}
use Rattle.std.specs.Prelude.{IfOk, Option, Result, nat_le, nat_lt, if◌then◌else◌}
use Rattle.graph.specs.Graph.{Graph}
use Rattle.links.specs.Books.{Ledger, by}
use Rattle.links.specs.Refusals.{Reason, Answers, Kept}
use Rattle.links.specs.declared.refusal.Layer.TheVariants.{Stream}
use Rattle.links.specs.declared.refusal.Refused.{Refused}
use Rattle.rules.specs.Calls.{Position, Answer, reason, answer, after}
use Rattle.rules.specs.Repair.{Ranking}
use Rattle.board.specs.Boards.{position, Stands, Steps as BoardSteps}
use Rattle.board.specs.declared.Board.{Board}
use Rattle.commands.specs.Commands.{bytes, decoding, decoded, unless_short}
use Rattle.commands.specs.declared.Command.{Command}
use Rattle.replies.specs.Lines.{line, refusal_line}
use Rattle.replies.specs.declared.TheConstants.{LONGEST_LINE}
use Rattle.stream.specs.Replies.{call_of, reply_to, reply_at}
use Rattle.stream.specs.declared.Stepped.{Stepped}

-- what stands at a place of a stream: its end, bytes that are no command, for a reason, or a
-- command
pub data Found : Type 0 where
  at_end : Found
  no_command : Reason → Found
  command : Command → Found

abbrev pub found_by : Option Reason → Command → Found
found_by None c = command c
found_by (Some why) c = no_command why

abbrev pub found_at : List ℕ → ℕ → Found
found_at stream place =
    let rest = drop place stream in
    if nat_le (length stream) place then at_end else found_by (decoding rest) (decoded rest)

-- ---- by the rules, on a board that stands

-- where a step leads: the position and the place after it, and the line that it answers
pub record Step : Type 0 where
  pub position : Position
  pub place : ℕ
  pub line : List ℕ

abbrev pub line_by : Option Reason → ℕ → List ℕ → List ℕ
line_by None place granted = granted
line_by (Some why) place granted = refusal_line why place

-- the line that answers a command at a place
abbrev pub answer_line : Position → Command → ℕ → List ℕ
answer_line x c place =
    line_by (reason x (call_of c)) place (line (reply_to c (answer x (call_of c))))

-- a step by what stands at the place; where it is no command, or the end, the place stays
abbrev pub step_of : Ranking → Position → ℕ → Found → Step
step_of before x place at_end = record { position = x; place = place; line = [] }
step_of before x place (no_command why) =
    record { position = x; place = place; line = refusal_line why place }
step_of before x place (command c) =
    record {
      position = after before x (call_of c);
      place = place + length (bytes c);
      line = answer_line x c place;
    }

abbrev pub step_at : Ranking → Position → List ℕ → ℕ → Step
step_at before x stream place = step_of before x place (found_at stream place)

-- ---- on every board

-- why a step is refused: the stream is too long, or 14: the output may be too short for a line
abbrev pub stepping : List ℕ → List ℕ → Option Reason
stepping stream out =
    unless_short stream (if nat_lt (length out) LONGEST_LINE then by Stream 14 else None)

-- a line was written at the start of the output `from`, and its length answered with the place
-- after the step
pub record WritesLine (line : List ℕ) (place : ℕ) (from : List ℕ) (r : Stepped)
    (out : List ℕ) : Type 0 where
  pub place_is : r.place ≡ place
  pub written_is : r.written ≡ length line
  pub out_is : out ≡ line ++ drop (length line) from
  pub short : length line ≤ LONGEST_LINE

module _ {B R F : Type 0} (graph : B → Graph) (made : B → Type 0) (ledger : B → Ledger)
    (fixed : B → F) (before : R → Ranking) where
  -- the command c at a place was answered by the board's own call, and the reply to that answer was
  -- written
  pub record Plays (s : Board B R) (c : Command) (place : ℕ) (from : List ℕ) (r : Stepped)
      (t : Board B R) (out : List ℕ) : Type 0 where
    pub answered : Result (Answer (call_of c)) Refused
    pub steps : BoardSteps graph made ledger fixed before s (call_of c) answered t
    pub writes : WritesLine (line (reply_at c place answered)) (place + length (bytes c)) from r out

  -- a step by what stands at the place: at the end and where it is no command the board stays as it
  -- was
  abbrev pub Takes : Found → Board B R → ℕ → List ℕ → Stepped → Board B R → List ℕ → Type 0
  Takes at_end s place from r t out = (t ≡ s) × WritesLine [] place from r out
  Takes (no_command why) s place from r t out =
      (t ≡ s) × WritesLine (refusal_line why place) place from r out
  Takes (command c) s place from r t out = Plays s c place from r t out

  -- a step y of the rules was made, and the board t stands at its position
  pub record Makes (y : Step) (from : List ℕ) (r : Stepped) (t : Board B R)
      (out : List ℕ) : Type 0 where
    pub writes : WritesLine y.line y.place from r out
    pub position_is : position graph ledger t ≡ y.position
    pub stands : Stands graph made ledger t

  -- how a step on the board s and the output `from` is answered r, and leaves the board t and the
  -- output `out`. Refused, it leaves both as they were
  pub record Steps (s : Board B R) (stream : List ℕ) (place : ℕ) (from : List ℕ)
      (r : Result Stepped Refused) (t : Board B R) (out : List ℕ) : Type 0 where
    pub board_kept : Kept r s t
    pub out_kept : Kept r from out
    pub answers : Answers (stepping stream from) r
        (λ p. Takes (found_at stream place) s place from p t out)
    pub by_rules : Stands graph made ledger s → IfOk r
        (λ p. Makes
        (step_at (before s.ranking) (position graph ledger s) stream place) from p t out)
