-- Commands of a stream carried out on any board, made or not.
use Rattle.std.specs.Prelude.{◌≡◌, ℕ, ◌+◌, Bool, false, List, length, None, Result, is_none}
use Rattle.std.specs.Prelude.{if◌then◌else◌}
use Rattle.graph.specs.Graph.{Graph}
use Rattle.links.specs.Books.{Ledger}
use Rattle.links.specs.Refusals.{Reason, Answers, Kept}
use Rattle.links.specs.declared.refusal.Refused.{Refused}
use Rattle.rules.specs.Calls.{reason}
use Rattle.rules.specs.Repair.{Ranking}
use Rattle.commands.specs.Commands.{bytes, unless_short}
use Rattle.board.specs.declared.Board.{Board}
use Rattle.board.specs.Boards.{position, Stands}
use Rattle.board.specs.Runs.{CarriesRuns}
use Rattle.stream.specs.Replies.{call_of}
use Rattle.stream.specs.Steps.{Found, at_end, no_command, command, found_at, step_of}

-- the place after what stands at a place
abbrev pub next_place : Found → ℕ → ℕ
next_place at_end place = place
next_place (no_command why) place = place
next_place (command c) place = place + length (bytes c)

module _
    {B R F : Type 0} (graph : B → Graph) (made : B → Type 0) (ledger : B → Ledger) (fixed : B → F)
    (before : R → Ranking) where
  -- whether what stands at a place is granted: only a command is, and on a made book just where
  -- the rules have no reason to refuse its call
  abbrev pub Grants : Found → Board B R → Bool → Type 0
  Grants at_end s granted = granted ≡ false
  Grants (no_command why) s granted = granted ≡ false
  Grants (command c) s granted =
      made s.book → granted ≡ is_none (reason (position graph ledger s) (call_of c))

  -- where nothing is granted, the board is as it was. A board that stands goes by the rules
  pub record Moved (f : Found) (s : Board B R) (place next : ℕ) (granted : Bool) (t : Board B R)
      : Type 0 where
    pub next_is : next ≡ next_place f place
    pub grants : Grants f s granted
    pub unmoved : granted ≡ false → t ≡ s
    pub by_rules : Stands graph made ledger s → position graph ledger t ≡
        (step_of (before s.ranking) (position graph ledger s) place f).position
    pub stands : Stands graph made ledger s → Stands graph made ledger t

  -- a step at a place of a stream led from the board s to t
  pub record CarriesOut (s : Board B R) (stream : List ℕ) (place : ℕ)
      (r : Result (ℕ × Bool) Refused) (t : Board B R) : Type 0 where
    pub run : CarriesRuns graph made ledger fixed before s t
    pub kept : Kept r s t
    pub answers : Answers (unless_short stream None) r
        (λ p. Moved (found_at stream place) s place p.0 p.1 t)

  -- two steps, of which n were granted, led over a board `between` from s to t. The second is at
  -- the place after the first. Where neither is granted, t is s
  pub record MovedTwice (s : Board B R) (stream : List ℕ) (place n : ℕ) (t : Board B R)
      : Type 0 where
    pub between : Board B R
    pub next : ℕ
    pub last : ℕ
    pub first : Bool
    pub second : Bool
    pub moved_first : Moved (found_at stream place) s place next first between
    pub moved_second : Moved (found_at stream next) between next last second t
    pub count : n ≡ (if first then 1 else 0) + (if second then 1 else 0)
    pub unmoved : n ≡ 0 → t ≡ s

  -- two steps led from the board s to t, which is s where the first finds no command
  pub record CarriesOutTwo (s : Board B R) (stream : List ℕ) (place : ℕ) (r : Result ℕ Refused)
      (t : Board B R) : Type 0 where
    pub run : CarriesRuns graph made ledger fixed before s t
    pub kept : Kept r s t
    pub answers : Answers (unless_short stream None) r (λ n. MovedTwice s stream place n t)
    pub no_command_first : (why : Reason) → found_at stream place ≡ no_command why → t ≡ s
