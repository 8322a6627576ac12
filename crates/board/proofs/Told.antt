-- What a board that stands answers to a call that is not refused.
use Rattle.std.proofs.Common.{◌≡◌, ℕ, ◌<◌, leb, None, Ok, Err, Option, Result, ap, sym, ◌∙◌}
use Rattle.std.proofs.lemmas.Bool.{cond-false, lt-leb}
use Rattle.std.proofs.lemmas.Option.{none-some}
use Rattle.graph.specs.Graph.{Graph}
use Rattle.links.specs.Books.{Ledger}
use Rattle.links.specs.Refusals.{told}
use Rattle.links.specs.declared.refusal.Refused.{Refused}
use Rattle.rules.specs.Calls.{Call, Answer, ask_partner, reason, answer}
use Rattle.rules.specs.Repair.{Ranking}
use Rattle.tables.specs.Views.{partners_of}
use Rattle.board.specs.declared.Board.{Board}
use Rattle.board.specs.Boards.{position, Stands, Steps}

module _ {B R F : Type 0} {graph : B → Graph} {made : B → Type 0} {ledger : B → Ledger} {fixed : B → F} {before : R → Ranking} (s t : Board B R) (stands : Stands graph made ledger s) where
  pub told_value : (c : Call) (r : Result (Answer c) Refused) → reason (position graph ledger s) c ≡ None → Steps graph made ledger fixed before s c r t →
      r ≡ Ok (answer (position graph ledger s) c)
  told_value c (Ok v) none step = ap Ok (step.partners stands).value
  told_value c (Err e) none step = absurd (none-some (told e) (sym none ∙ (step.links stands.book_made).decides))

  pub told_partner : (a : ℕ) → a < (graph s.book).size → (r : Result (Option ℕ) Refused) → Steps graph made ledger fixed before s (ask_partner a) r t → r ≡ Ok (partners_of s.tables a)
  told_partner a inside r = told_value (ask_partner a) r (cond-false (leb (graph s.book).size a) _ _ (lt-leb (graph s.book).size a inside))
