-- What a step does to a board, known from the line that it writes.
use Rattle.std.proofs.Common.{◌≡◌, ℕ, ◌+◌, ◌<◌, ◌≤◌, Bool, true, false, cond, not, nat_eq, nat_lt, List, [], ◌∷◌, None, Some, Ok, Err, is_ok, is_none, Option, Result, slice_index_or, sym, refl, ap, ◌∙◌, subst, arith}
use Rattle.std.proofs.lemmas.Bool.{false≢true}
use Rattle.std.proofs.lemmas.Bool.Decides.{nat_tests}
use Rattle.graph.specs.Graph.{Graph}
use Rattle.links.specs.Books.{Ledger}
use Rattle.links.specs.Refusals.{Reason, Answers, Kept}
use Rattle.links.specs.declared.refusal.Refused.{Refused}
use Rattle.rules.specs.Calls.{Answer}
use Rattle.rules.specs.Repair.{Ranking}
use Rattle.commands.specs.Commands.{unless_short}
use Rattle.commands.specs.declared.Command.{Command}
use Rattle.commands.specs.declared.Command.TheVariants.{Link, Unlink, Withdraw, Depart, Partner}
use Rattle.replies.specs.Lines.{line}
use Rattle.board.specs.declared.Board.{Board}
use Rattle.board.specs.Runs.{Run, more, CarriesRuns}
use Rattle.stream.specs.Replies.{call_of, reply_at}
use Rattle.stream.specs.Steps.{Found, at_end, no_command, command, found_at, stepping, WritesLine, Takes, Steps}
use Rattle.stream.specs.declared.Stepped.{Stepped}
use Rattle.board_examples.specs.Stepping.{Grants, next_place, Moved, CarriesOut, CarriesOutTwo}

-- ---- the line

-- a line whose first byte is no "n"
abbrev pub no_refusal : List ℕ → Bool
no_refusal [] = false
no_refusal (x ∷ xs) = not (nat_eq x 110)

pub first_byte : (text from out : List ℕ) (place : ℕ) (p : Stepped) → WritesLine text place from p out → 0 < p.written → not (nat_eq (slice_index_or out 0 0) 110) ≡ no_refusal text
first_byte [] from out place p writes some = absurd (omega (arith, writes.written_is))
first_byte (x ∷ xs) from out place p writes some = ap (λ (o : List ℕ). not (nat_eq (slice_index_or o 0 0) 110)) writes.out_is

pub no_byte : (text from out : List ℕ) (place : ℕ) (p : Stepped) → WritesLine text place from p out → p.written ≤ 0 → nat_lt 0 p.written ≡ no_refusal text
no_byte [] from out place p writes none = grind (arith, nat_tests)
no_byte (x ∷ xs) from out place p writes none = absurd (omega (arith, writes.written_is))

line_granted : (c : Command) (place : ℕ) (v : Answer (call_of c)) → no_refusal (line (reply_at c place (Ok v))) ≡ true
line_granted (Link a b) place v = refl
line_granted (Unlink a b) place v = refl
line_granted (Withdraw a) place v = refl
line_granted (Depart a) place v = refl
line_granted (Partner a) place None = refl
line_granted (Partner a) place (Some b) = refl

line_tells : (c : Command) (place : ℕ) (r : Result (Answer (call_of c)) Refused) → no_refusal (line (reply_at c place r)) ≡ is_ok r
line_tells c place (Ok v) = line_granted c place v
line_tells c place (Err e) = refl

-- ---- the board

granted_unless : {A : Type 0} (o : Option Reason) (r : Result A Refused) → Answers o r (λ _. Unit {0}) → is_ok r ≡ is_none o
granted_unless o (Ok v) decides = sym (ap is_none decides.0)
granted_unless o (Err e) decides = sym (ap is_none decides)

kept_refused : {A S : Type 0} (r : Result A Refused) (s t : S) → Kept r s t → is_ok r ≡ false → t ≡ s
kept_refused (Ok v) s t kept refused = absurd (false≢true (sym refused))
kept_refused (Err e) s t kept refused = kept

no_first : (x y : Bool) → cond x 1 0 + cond y 1 0 ≡ 0 → x ≡ false
no_first true y e = absurd (omega (arith, e))
no_first false y e = refl

no_second : (x y : Bool) → cond x 1 0 + cond y 1 0 ≡ 0 → y ≡ false
no_second x true e = absurd (omega (arith, e))
no_second x false e = refl

module _ {B R F : Type 0} (graph : B → Graph) (made : B → Type 0) (ledger : B → Ledger) (fixed : B → F) (before : R → Ranking) where
  carries_run : (f : Found) (s : Board B R) (place : ℕ) (from : List ℕ) (p : Stepped) (t : Board B R) (out : List ℕ) →
      Takes graph made ledger fixed before f s place from p t out → CarriesRuns graph made ledger fixed before s t
  carries_run at_end s place from p t out takes = λ first run. subst (Run graph made ledger fixed before first) (sym takes.0) run
  carries_run (no_command why) s place from p t out takes = λ first run. subst (Run graph made ledger fixed before first) (sym takes.0) run
  carries_run (command c) s place from p t out takes = λ first run. more s run (call_of c) takes.answered t takes.steps

  -- what a step tells, by what it found
  record Tells (f : Found) (s : Board B R) (place next : ℕ) (granted : Bool) (t : Board B R) : Type 0 where
    next_is : next ≡ next_place f place
    grants : Grants graph made ledger fixed before f s granted
    unmoved : granted ≡ false → t ≡ s

  tells : (f : Found) (s : Board B R) (place : ℕ) (from : List ℕ) (p : Stepped) (t : Board B R) (out : List ℕ) (granted : Bool) →
      Takes graph made ledger fixed before f s place from p t out → ((text : List ℕ) (n : ℕ) → WritesLine text n from p out → granted ≡ no_refusal text) →
      Tells f s place p.place granted t
  tells at_end s place from p t out granted takes reads =
      record { next_is = takes.1.place_is; grants = reads _ _ takes.1; unmoved = λ no. takes.0 }
  tells (no_command why) s place from p t out granted takes reads =
      record { next_is = takes.1.place_is; grants = reads _ _ takes.1; unmoved = λ no. takes.0 }
  tells (command c) s place from p t out granted takes reads =
      let told : granted ≡ is_ok takes.answered = reads _ _ takes.writes ∙ line_tells c place takes.answered in
      record {
        next_is = takes.writes.place_is;
        grants = λ was_made. told ∙ granted_unless _ takes.answered (takes.steps.links was_made).decides;
        unmoved = λ no. kept_refused takes.answered s t takes.steps.kept (sym told ∙ no);
      }

  module _ (s : Board B R) (stream : List ℕ) (place : ℕ) (t : Board B R) where
    pub carried : (from out : List ℕ) (p : Stepped) (granted : Bool) → stepping stream from ≡ unless_short stream None → Steps graph made ledger fixed before s stream place from (Ok p) t out →
        ((text : List ℕ) (n : ℕ) → WritesLine text n from p out → granted ≡ no_refusal text) → CarriesOut graph made ledger fixed before s stream place (Ok (p.place, granted)) t
    carried from out p granted long steps reads = record {
      run = carries_run (found_at stream place) s place from p t out steps.answers.1;
      kept = tt;
      answers = (
        sym long ∙ steps.answers.0,
        let told = tells (found_at stream place) s place from p t out granted steps.answers.1 reads in
            record {
              next_is = told.next_is;
              grants = told.grants;
              unmoved = told.unmoved;
              by_rules = λ stood. (steps.by_rules stood).position_is;
              stands = λ stood. (steps.by_rules stood).stands;
            },
      );
    }

  module _ (s : Board B R) (stream : List ℕ) (place next : ℕ) (first : Bool) (u t : Board B R) (one : CarriesOut graph made ledger fixed before s stream place (Ok (next, first)) u) where
    pub two_of_two : (last n : ℕ) (second : Bool) → CarriesOut graph made ledger fixed before u stream next (Ok (last, second)) t → n ≡ cond first 1 0 + cond second 1 0 → CarriesOutTwo graph made ledger fixed before s stream place (Ok n) t
    two_of_two last n second two sum = record {
      run = λ origin run. two.run origin (one.run origin run);
      kept = tt;
      answers = (
        one.answers.0,
        record {
          between = u;
          next = next;
          last = last;
          first = first;
          second = second;
          moved_first = one.answers.1;
          moved_second = two.answers.1;
          count = sum;
          unmoved = λ none. two.answers.1.unmoved (no_second first second (sym sum ∙ none)) ∙ one.answers.1.unmoved (no_first first second (sym sum ∙ none));
        },
      );
      no_command_first = λ why found.
          let at : Moved graph made ledger fixed before (no_command why) s place next first u = subst (λ (f : Found). Moved graph made ledger fixed before f s place next first u) found one.answers.1 in
          let again : found_at stream next ≡ no_command why = ap (found_at stream) at.next_is ∙ found in
          let then : Moved graph made ledger fixed before (no_command why) u next last second t = subst (λ (f : Found). Moved graph made ledger fixed before f u next last second t) again two.answers.1 in
          then.unmoved then.grants ∙ at.unmoved at.grants;
    }
