-- Text that grows with each step.
use Rattle.std.specs.Prelude.{◌≡◌, ℕ, List, ◌++◌, length, Some, None, Ok, Err, Option, Result}
use Rattle.graph.specs.Graph.{Graph}
use Rattle.links.specs.Books.{Ledger}
use Rattle.links.specs.Refusals.{Reason, told}
use Rattle.rules.specs.Calls.{Position}
use Rattle.rules.specs.Repair.{Ranking}
use Rattle.board.specs.Boards.{position, Stands}
use Rattle.board.specs.declared.Board.{Board}
use Rattle.stream.specs.Steps.{Step, step_at}
use Rattle.transcript.specs.Transcript.{Played, played, transcribing}
use Rattle.transcript.specs.declared.Failure.{Failure}
use Rattle.transcript.specs.declared.Failure.TheVariants.{Input, Memory}

-- the input is refused for this reason, or it is not and there is no memory
abbrev pub Fails : Option Reason → Failure → Type 0
Fails why (Input e) = why ≡ Some (told e)
Fails why Memory = why ≡ None

-- an answer under the reason to refuse the input, if there is one
abbrev pub Ends : {A : Type 0} → Option Reason → Result A Failure → (A → Type 0) → Type 0
Ends why (Ok x) Granted = (why ≡ None) × Granted x
Ends why (Err f) Granted = Fails why f

module _ {B R : Type 0} (graph : B → Graph) (made : B → Type 0) (ledger : B → Ledger) where
  -- the board t stands at the position x, and the text is `from` with more at its end
  pub record Adds (x : Position) (more from : List ℕ) (t : Board B R) (text : List ℕ) : Type 0 where
    pub position_is : position graph ledger t ≡ x
    pub text_is : text ≡ from ++ more
    pub stands : Stands graph made ledger t

  -- a step y was made, and its line put at the end of the text
  pub record Pushes (y : Step) (from : List ℕ) (next : ℕ) (t : Board B R)
      (text : List ℕ) : Type 0 where
    pub place_is : next ≡ y.place
    pub adds : Adds y.position y.line from t text

  -- steps were made, and their lines put at the end of the text
  abbrev pub Plays : Played → List ℕ → Board B R → List ℕ → Type 0
  Plays z from t text = Adds z.position z.text from t text

  module _ (before : R → Ranking) where
    -- how a step on the board s is answered r, and leaves the board t and the text
    pub record PushesStep (s : Board B R) (stream : List ℕ) (place : ℕ) (from : List ℕ)
        (r : Result ℕ Failure) (t : Board B R) (text : List ℕ) : Type 0 where
      pub ranking_is : t.ranking ≡ s.ranking
      pub ends : Ends (transcribing stream) r
          (λ next. Stands graph made ledger s →
          Pushes (step_at (before s.ranking) (position graph ledger s) stream place) from next
          t text)

    -- the same of all steps of the stream
    abbrev pub PlaysAll : Board B R → List ℕ → List ℕ → Result Unit Failure → Board B R → List ℕ →
        Type 0
    PlaysAll s stream from r t text =
        Ends (transcribing stream) r
        (λ _. Stands graph made ledger s →
        Plays (played (length stream) (before s.ranking) (position graph ledger s) stream 0)
        from t text)
