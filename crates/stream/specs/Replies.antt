-- The call that a command asks for, and the reply to its answer.
use Rattle.std.specs.Prelude.{◌≡◌, ℕ, Some, None, Ok, Err, Option, Result}
use Rattle.graph.specs.Graph.{Graph}
use Rattle.links.specs.Books.{Ledger}
use Rattle.links.specs.declared.refusal.Refused.{Refused}
use Rattle.rules.specs.Calls.{Call, Answer, link, unlink, withdraw, depart, ask_partner}
use Rattle.rules.specs.Repair.{Ranking}
use Rattle.board.specs.Boards.{Steps}
use Rattle.board.specs.declared.Board.{Board}
use Rattle.commands.specs.declared.Command.{Command}
use Rattle.commands.specs.declared.Command.TheVariants.{Link, Unlink, Withdraw, Depart, Partner}
use Rattle.replies.specs.declared.Reply.{Reply}
use Rattle.replies.specs.declared.Reply.TheVariants.{Done, Alone, With, No}

-- the call that a command asks for
abbrev pub call_of : Command → Call
call_of (Link a b) = link a b
call_of (Unlink a b) = unlink a b
call_of (Withdraw a) = withdraw a
call_of (Depart a) = depart a
call_of (Partner a) = ask_partner a

abbrev pub partner_reply : Option ℕ → Reply
partner_reply None = Alone
partner_reply (Some b) = With b

-- the reply to what the call of a command answers
abbrev pub reply_to : (c : Command) → Answer (call_of c) → Reply
reply_to (Link a b) done = Done
reply_to (Unlink a b) done = Done
reply_to (Withdraw a) done = Done
reply_to (Depart a) done = Done
reply_to (Partner a) partner = partner_reply partner

-- the reply to a command at a place, granted or refused
abbrev pub reply_at : (c : Command) → ℕ → Result (Answer (call_of c)) Refused → Reply
reply_at c place (Ok v) = reply_to c v
reply_at c place (Err e) = No e place

-- an answer with its value turned into another, if it was granted
abbrev pub on_granted : {A C : Type 0} → (A → C) → Result A Refused → Result C Refused
on_granted f (Ok v) = Ok (f v)
on_granted f (Err e) = Err e

-- the board s carries out the command c by its own call, and is t after it; r is the reply to what
-- that call answered
pub record CarriesOut {B R F : Type 0} (graph : B → Graph) (made : B → Type 0)
    (ledger : B → Ledger) (fixed : B → F) (before : R → Ranking) (s : Board B R) (c : Command)
    (r : Result Reply Refused) (t : Board B R) : Type 0 where
  pub answered : Result (Answer (call_of c)) Refused
  pub steps : Steps graph made ledger fixed before s (call_of c) answered t
  pub reply_is : r ≡ on_granted (reply_to c) answered
