-- A step, by what is read at its place, and what is written of it.
use Rattle.std.proofs.Common.{◌≡◌, ℕ, ◌+◌, ◌<◌, ◌≤◌, ltb, leb, List, ◌++◌, length, drop, Some, None, Ok, Err, Option, Result, sym, refl, ap, ◌∙◌, subst, inl, inr, arith}
use Rattle.std.proofs.lemmas.Option.{none-some}
use Rattle.std.proofs.lemmas.Bool.{cond-true, cond-false, cases_lt, le-leb, lt-leb, le-ltb}
use Rattle.std.proofs.lemmas.Bool.Decides.{nat_tests}
use Rattle.graph.specs.Graph.{Graph}
use Rattle.links.specs.Books.{Ledger}
use Rattle.outputs.specs.Outputs.{unless_fits, Writes}
use Rattle.links.specs.Refusals.{Reason, Answers, told}
use Rattle.links.specs.declared.refusal.Refused.{Refused}
use Rattle.rules.specs.Calls.{Position, Answer, reason, answer}
use Rattle.rules.specs.Repair.{Ranking}
use Rattle.board.specs.Boards.{position, Stands}
use Rattle.board.specs.declared.Board.{Board}
use Rattle.board.proofs.Runs.{by_rules}
use Rattle.commands.specs.Commands.{bytes, decoding, decoded, followed, Reads, Spans}
use Rattle.commands.specs.declared.Command.{Command}
use Rattle.commands.specs.declared.Decoded.{Decoded}
use Rattle.commands.proofs.Reading.{reading_inside}
use Rattle.replies.specs.Lines.{line}
use Rattle.replies.specs.declared.Reply.{Reply}
use Rattle.replies.specs.declared.Reply.TheVariants.{No}
use Rattle.stream.specs.Replies.{call_of, reply_to, reply_at, on_granted, CarriesOut}
use Rattle.stream.specs.Steps.{Found, at_end, no_command, command, found_by, found_at, answer_line, line_by, step_of, step_at, stepping, WritesLine, Takes, Makes, Steps}
use Rattle.stream.specs.declared.Stepped.{Stepped}

pub stepping_none : (stream out : List ℕ) → stepping stream out ≡ None → (length stream ≤ 65536) × (19 ≤ length out)
stepping_none stream out none = (grind (arith, nat_tests), grind (arith, nat_tests))

none_some : {o : Option Reason} (e : Reason) → o ≡ None → o ≡ Some e → ⊥
none_some e none some = none-some e (sym none ∙ some)

pub fits : (text out : List ℕ) (e : Refused) → length text ≤ length out → unless_fits text out ≡ Some (told e) → ⊥
fits text out e short = none_some (told e) (cond-false _ _ _ (le-ltb (length out) (length text) short))

-- ---- what stands at the place

module _ (stream : List ℕ) (place : ℕ) (short : length stream ≤ 65536) where
  found_inside : place < length stream → found_at stream place ≡ found_by (decoding (drop place stream)) (decoded (drop place stream))
  found_inside inside = cond-false _ _ _ (lt-leb (length stream) place inside)

  pub found_end : Reads stream place (Ok None) → found_at stream place ≡ at_end
  found_end reads = elim (cases_lt place (length stream)) [
    | inl inside ↦
        let some = cond-false (leb (length stream) place) None (Some (followed place (decoded (drop place stream)))) (lt-leb (length stream) place inside) in
        absurd (none-some (followed place (decoded (drop place stream))) (reads.1 ∙ some))
    | inr past ↦ cond-true _ _ _ (le-leb (length stream) place past)
  ]

  -- a command was read
  decoded_same : (d : Decoded) → Reads stream place (Ok (Some d)) → Spans stream place d → d ≡ followed place (decoded (drop place stream))
  decoded_same d reads spans =
      let inside = cond-false (leb (length stream) place) None (Some (followed place (decoded (drop place stream)))) (lt-leb (length stream) place (omega (arith, spans.ahead, spans.within))) in
      let same = reads.1 ∙ inside in
      cc

  pub found_command : (d : Decoded) → Reads stream place (Ok (Some d)) → Spans stream place d → found_at stream place ≡ command d.command
  found_command d reads spans =
      let inside : place < length stream = omega (arith, spans.ahead, spans.within) in
      let known = sym (reading_inside stream place short inside) ∙ reads.0 in
      found_inside inside ∙ ap (λ (o : Option Reason). found_by o (decoded (drop place stream))) known
      ∙ ap (λ (e : Decoded). command e.command) (sym (decoded_same d reads spans))

  pub next_is : (d : Decoded) → Reads stream place (Ok (Some d)) → Spans stream place d → d ≡ followed place d.command
  next_is d reads spans = let same = decoded_same d reads spans in same ∙ ap (λ (e : Decoded). followed place e.command) (sym same)

  -- what stands there is no command
  pub found_refused : (e : Refused) → Reads stream place (Err e) → found_at stream place ≡ no_command (told e)
  found_refused e reads = elim (cases_lt place (length stream)) [
    | inl inside ↦
        let known = sym (reading_inside stream place short inside) ∙ reads in
        found_inside inside ∙ ap (λ (o : Option Reason). found_by o (decoded (drop place stream))) known
    | inr past ↦
        let ended = cond-false (ltb 65536 (length stream)) _ _ (le-ltb 65536 (length stream) short) ∙ cond-true (leb (length stream) place) _ _ (le-leb (length stream) place past) in
        absurd (none_some (told e) ended reads)
  ]

-- ---- what is answered

-- a reply, or the refusal that is replied to the command at a place
abbrev pub replied_at : ℕ → Result Reply Refused → Reply
replied_at place (Ok reply) = reply
replied_at place (Err e) = No e place

replied_same : (c : Command) (place : ℕ) (r : Result (Answer (call_of c)) Refused) → replied_at place (on_granted (reply_to c) r) ≡ reply_at c place r
replied_same c place (Ok v) = refl
replied_same c place (Err e) = refl

line_same : (x : Position) (c : Command) (place : ℕ) (r : Result (Answer (call_of c)) Refused) →
    Answers (reason x (call_of c)) r (λ v. v ≡ answer x (call_of c)) → line (reply_at c place r) ≡ answer_line x c place
line_same x c place (Ok v) answers =
    ap (λ (w : Answer (call_of c)). line (reply_to c w)) answers.1
    ∙ ap (λ (o : Option Reason). line_by o place (line (reply_to c (answer x (call_of c))))) (sym answers.0)
line_same x c place (Err e) answers = ap (λ (o : Option Reason). line_by o place (line (reply_to c (answer x (call_of c))))) (sym answers)

module _ {B R F : Type 0} (graph : B → Graph) (made : B → Type 0) (ledger : B → Ledger) (fixed : B → F) (before : R → Ranking) where
  -- at a place, the board s has this reply, and is t after it, with the place `next`: what holds once its line is written
  pub record Turns (s : Board B R) (stream : List ℕ) (place : ℕ) (reply : Reply) (next : ℕ) (t : Board B R) : Type 0 where
    pub takes : (from : List ℕ) (r : Stepped) (out : List ℕ) → WritesLine (line reply) next from r out →
        Takes graph made ledger fixed before (found_at stream place) s place from r t out
    pub makes : Stands graph made ledger s → (from : List ℕ) (r : Stepped) (out : List ℕ) → WritesLine (line reply) next from r out →
        Makes graph made ledger fixed before (step_at (before s.ranking) (position graph ledger s) stream place) from r t out

module _ {B R F : Type 0} {graph : B → Graph} {made : B → Type 0} {ledger : B → Ledger} {fixed : B → F} {before : R → Ranking} {s : Board B R} {stream : List ℕ} {place : ℕ} where
  pub turns_command : {t : Board B R} (d : Decoded) (r : Result Reply Refused) → length stream ≤ 65536 → Reads stream place (Ok (Some d)) → Spans stream place d →
      CarriesOut graph made ledger fixed before s d.command r t → Turns graph made ledger fixed before s stream place (replied_at place r) d.next t
  turns_command {t} d r short reads spans carried =
      let x = position graph ledger s in
      let c = d.command in
      let found = found_command stream place short d reads spans in
      let reply : replied_at place r ≡ reply_at c place carried.answered = ap (replied_at place) carried.reply_is ∙ replied_same c place carried.answered in
      let next : d.next ≡ place + length (bytes c) = ap (λ (e : Decoded). e.next) (next_is stream place short d reads spans) in
      record {
        takes = λ from p out writes.
            subst (λ (f : Found). Takes graph made ledger fixed before f s place from p t out) (sym found)
            (record {
              answered = carried.answered;
              steps = carried.steps;
              writes = subst (λ (A : Type 0). A) (λ i. WritesLine (line (reply i)) (next i) from p out) writes;
            });
        makes = λ stood from p out writes.
            let led = by_rules graph made ledger fixed before s stood (call_of c) carried.answered t carried.steps in
            let says = ap line reply ∙ line_same x c place carried.answered led.answers in
            subst (λ (f : Found). Makes graph made ledger fixed before (step_of (before s.ranking) x place f) from p t out) (sym found)
            (record {
              writes = subst (λ (A : Type 0). A) (λ i. WritesLine (says i) (next i) from p out) writes;
              position_is = led.position_is;
              stands = (carried.steps.partners stood).stands;
            });
      }

  pub turns_refused : (e : Refused) → length stream ≤ 65536 → Reads stream place (Err e) → Turns graph made ledger fixed before s stream place (No e place) place s
  turns_refused e short reads =
      let x = position graph ledger s in
      let found = found_refused stream place short e reads in
      record {
        takes = λ from p out writes. subst (λ (f : Found). Takes graph made ledger fixed before f s place from p s out) (sym found) (refl, writes);
        makes = λ stood from p out writes.
            subst (λ (f : Found). Makes graph made ledger fixed before (step_of (before s.ranking) x place f) from p s out) (sym found)
            (record { writes = writes; position_is = refl; stands = stood });
      }

  pub steps_written : {t : Board B R} {from out : List ℕ} {n : ℕ} (next : ℕ) (reply : Reply) → stepping stream from ≡ None → Turns graph made ledger fixed before s stream place reply next t →
      Writes (line reply) from (Ok n) out → length (line reply) ≤ 19 → Steps graph made ledger fixed before s stream place from (Ok (record { place = next; written = n })) t out
  steps_written {t} {from} {out} {n} next reply none turns writes short =
      let (size, is) = writes.answers.1 in
      let p : Stepped = record { place = next; written = n } in
      let written : WritesLine (line reply) next from p out = record {
        place_is = refl;
        written_is = size;
        out_is = is ∙ ap (λ k. line reply ++ drop k from) size;
        short = short;
      } in
      record {
        board_kept = tt;
        out_kept = tt;
        answers = (none, turns.takes from p out written);
        by_rules = λ stood. turns.makes stood from p out written;
      }

-- ---- what a step keeps

module _ {B R F : Type 0} (graph : B → Graph) (made : B → Type 0) (ledger : B → Ledger) (fixed : B → F) (before : R → Ranking) (s t : Board B R) (place : ℕ) (from out : List ℕ) (r : Stepped) where
  taken_ranking : (found : Found) → Takes graph made ledger fixed before found s place from r t out → t.ranking ≡ s.ranking
  taken_ranking at_end takes = ap (λ (b : Board B R). b.ranking) takes.0
  taken_ranking (no_command why) takes = ap (λ (b : Board B R). b.ranking) takes.0
  taken_ranking (command c) takes = takes.steps.ranking_is

  pub ranking_kept : (stream : List ℕ) → Steps graph made ledger fixed before s stream place from (Ok r) t out → t.ranking ≡ s.ranking
  ranking_kept stream steps = taken_ranking (found_at stream place) steps.answers.1
