-- A command carried out by the board's own call.
use Rattle.std.proofs.Common.{◌≡◌, IsErrAnd, Ok, Err, Result, sym, ap, subst}
use Rattle.graph.specs.Graph.{Graph}
use Rattle.links.specs.Books.{Ledger}
use Rattle.links.specs.declared.refusal.Refused.{Refused}
use Rattle.rules.specs.Calls.{Answer}
use Rattle.rules.specs.Repair.{Ranking}
use Rattle.board.specs.Boards.{Steps}
use Rattle.board.specs.declared.Board.{Board}
use Rattle.commands.specs.declared.Command.{Command}
use Rattle.replies.specs.declared.Reply.{Reply}
use Rattle.stream.specs.Replies.{call_of, reply_to, on_granted, CarriesOut}

module _ {B R F : Type 0} {graph : B → Graph} {made : B → Type 0} {ledger : B → Ledger} {fixed : B → F} {before : R → Ranking} where
  pub carries : {s t : Board B R} {c : Command} {r : Result Reply Refused} (d : Command) → c ≡ d → (answered : Result (Answer (call_of d)) Refused) →
      Steps graph made ledger fixed before s (call_of d) answered t → r ≡ on_granted (reply_to d) answered → CarriesOut graph made ledger fixed before s c r t
  carries {s} {t} {c} {r} d same answered steps reply =
      subst (λ (e : Command). CarriesOut graph made ledger fixed before s e r t) (sym same) (record { answered = answered; steps = steps; reply_is = reply })

-- the error of a `?`
pub error_is : {A : Type 0} (r : Result A Refused) (e : Refused) → IsErrAnd r (λ x. x ≡ e) → r ≡ Err e
error_is (Ok v) e is = absurd is
error_is (Err x) e is = ap Err is
