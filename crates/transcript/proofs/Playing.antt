-- Steps that are made one after the other, and the text that they answer.
use Rattle.std.proofs.Common.{◌≡◌, ℕ, zero, suc, ◌+◌, ◌-◌, ◌<◌, ◌≤◌, leb, ◌⊎◌, List, [], ◌++◌, length, None, sym, refl, ap, ◌∙◌, ap₂, inl, inr, ⊎_elim, append_assoc, arith}
use Rattle.std.proofs.lemmas.List.{append-nil}
use Rattle.std.proofs.lemmas.Bool.{cond-true, cond-false, eq-eqb, ne_eqb, le-leb, le-ltb}
use Rattle.std.proofs.lemmas.Bool.Decides.{nat_tests}
use Rattle.graph.specs.Graph.{Graph}
use Rattle.links.specs.Books.{Ledger}
use Rattle.rules.specs.Calls.{Position}
use Rattle.rules.specs.Repair.{Ranking}
use Rattle.board.specs.Boards.{position, Stands}
use Rattle.board.specs.declared.Board.{Board}
use Rattle.commands.specs.Commands.{bytes}
use Rattle.commands.specs.declared.Command.{Command}
use Rattle.commands.specs.declared.Command.TheVariants.{Link, Unlink, Withdraw, Depart, Partner}
use Rattle.stream.specs.Steps.{Found, at_end, no_command, command, found_at, Step, step_of, step_at, stepping}
use Rattle.transcript.specs.Texts.{Pushes, Plays}
use Rattle.transcript.specs.Transcript.{Played, and_then, played, PlayedOut, transcribing}

pub played_none : (before : Ranking) (x : Position) (stream : List ℕ) (place : ℕ) → played 0 before x stream place ≡ record { position = x; text = [] }
unfolding played
played_none before x stream place = refl

pub played_step : (n : ℕ) (before : Ranking) (x : Position) (stream : List ℕ) (place : ℕ) →
    played (suc n) before x stream place ≡ and_then place (step_at before x stream place) (played n before (step_at before x stream place).position stream (step_at before x stream place).place)
unfolding played
played_step n before x stream place = refl

and_stays : (place : ℕ) (y : Step) (rest : Played) → y.place ≡ place → and_then place y rest ≡ record { position = y.position; text = y.line }
and_stays place y rest same = cond-true _ _ _ (eq-eqb y.place place same)

and_goes_on : (place : ℕ) (y : Step) (rest : Played) → (y.place ≡ place → ⊥) → and_then place y rest ≡ record { position = rest.position; text = y.line ++ rest.text }
and_goes_on place y rest other = cond-false _ _ _ (ne_eqb y.place place other)

-- ---- more steps than bytes

step_ended : (before : Ranking) (x : Position) (stream : List ℕ) (place : ℕ) → length stream ≤ place → step_at before x stream place ≡ record { position = x; place = place; line = [] }
step_ended before x stream place past = ap (step_of before x place) (cond-true (leb (length stream) place) _ _ (le-leb (length stream) place past))

some_bytes : (command : Command) → 0 < length (bytes command)
some_bytes (Link a b) = omega arith
some_bytes (Unlink a b) = omega arith
some_bytes (Withdraw a) = omega arith
some_bytes (Depart a) = omega arith
some_bytes (Partner a) = omega arith

step_of_ahead : (before : Ranking) (x : Position) (place : ℕ) (f : Found) → ((step_of before x place f).place ≡ place) ⊎ (place < (step_of before x place f).place)
step_of_ahead before x place at_end = inl refl
step_of_ahead before x place (no_command why) = inl refl
step_of_ahead before x place (command c) = inr (omega (arith, some_bytes c))

-- a step leaves the place or goes on
step_ahead : (before : Ranking) (x : Position) (stream : List ℕ) (place : ℕ) → ((step_at before x stream place).place ≡ place) ⊎ (place < (step_at before x stream place).place)
step_ahead before x stream place = step_of_ahead before x place (found_at stream place)

played_ended : (n : ℕ) (before : Ranking) (x : Position) (stream : List ℕ) (place : ℕ) → length stream ≤ place → played n before x stream place ≡ record { position = x; text = [] }
played_ended zero before x stream place past = played_none before x stream place
played_ended (suc n) before x stream place past =
    let y = step_at before x stream place in
    let ended = step_ended before x stream place past in
    let stays = and_stays place y (played n before y.position stream y.place) (ap (λ (z : Step). z.place) ended) in
    played_step n before x stream place ∙ stays ∙ ap (λ (z : Step). record { position = z.position; text = z.line }) ended

played_from : (n more : ℕ) (before : Ranking) (x : Position) (stream : List ℕ) (place : ℕ) → length stream ≤ n + place → played (n + more) before x stream place ≡ played n before x stream place
played_from zero more before x stream place enough = played_ended (0 + more) before x stream place (omega arith) ∙ sym (played_ended 0 before x stream place (omega arith))
played_from (suc n) more before x stream place enough =
    let y = step_at before x stream place in
    let one : suc n + more ≡ suc (n + more) = omega arith in
    ap (λ k. played k before x stream place) one ∙ played_step (n + more) before x stream place
    ∙ ⊎_elim (λ (stays : y.place ≡ place). and_stays place y _ stays ∙ sym (and_stays place y _ stays))
    (λ (ahead : place < y.place). ap (and_then place y) (played_from n more before y.position stream y.place (omega arith))) (step_ahead before x stream place)
    ∙ sym (played_step n before x stream place)

pub played_out : PlayedOut
played_out before x stream more = played_from (length stream) more before x stream 0 (omega arith)

-- ---- a stream that is played on a board

-- with the text so far and what is still to be played, all is played that was
pub record Remains (all rest : Played) (from text : List ℕ) : Type 0 where
  pub position_is : rest.position ≡ all.position
  pub text_is : text ++ rest.text ≡ from ++ all.text

module _ {B R : Type 0} (graph : B → Graph) (made : B → Type 0) (ledger : B → Ledger) (before : R → Ranking) where
  -- after i of n steps the board is t and stands, and the others are left
  pub record Left (n i : ℕ) (s : Board B R) (stream from : List ℕ) (place : ℕ) (t : Board B R) (text : List ℕ) : Type 0 where
    pub ranking_is : t.ranking ≡ s.ranking
    pub stands : Stands graph made ledger t
    pub remains : Remains (played n (before s.ranking) (position graph ledger s) stream 0) (played (n - i) (before s.ranking) (position graph ledger t) stream place) from text

module _ {B R : Type 0} {graph : B → Graph} {made : B → Type 0} {ledger : B → Ledger} {before : R → Ranking} {n i place : ℕ} {s t : Board B R} {stream from text : List ℕ} (left : Left graph made ledger before n i s stream from place t text) where
  module _ {next : ℕ} {u : Board B R} {more : List ℕ} (below : i < n)
      (pushes : Pushes graph made ledger (step_at (before t.ranking) (position graph ledger t) stream place) text next u more) where
    abbrev here : R → Step
    here o = step_at (before o) (position graph ledger t) stream place

    abbrev later : R → Played
    later o = played (n - (i + 1)) (before s.ranking) (here o).position stream (here o).place

    next_is : played (n - i) (before s.ranking) (position graph ledger t) stream place ≡ and_then place (here t.ranking) (later t.ranking)
    next_is =
        let one : n - i ≡ suc (n - (i + 1)) = omega arith in
        ap (λ k. played k (before s.ranking) (position graph ledger t) stream place) one
        ∙ played_step (n - (i + 1)) (before s.ranking) (position graph ledger t) stream place
        ∙ ap (λ (o : R). and_then place (here o) (later o)) (sym left.ranking_is)

    -- the place stayed: all is played
    pub left_stays : next ≡ place → Plays graph made ledger (played n (before s.ranking) (position graph ledger s) stream 0) from u more
    left_stays same =
        let rest = next_is ∙ and_stays place (here t.ranking) (later t.ranking) (sym pushes.place_is ∙ same) in
        let adds = pushes.adds in
        record {
          position_is = adds.position_is ∙ sym (ap (λ (z : Played). z.position) rest) ∙ left.remains.position_is;
          text_is = adds.text_is ∙ sym (ap (λ (z : Played). text ++ z.text) rest) ∙ left.remains.text_is;
          stands = adds.stands;
        }

    pub left_more : u.ranking ≡ t.ranking → (next ≡ place → ⊥) → Left graph made ledger before n (i + 1) s stream from next u more
    left_more kept other =
        let order = before s.ranking in
        let rest = next_is ∙ and_goes_on place (here t.ranking) (later t.ranking) (λ same. other (pushes.place_is ∙ same)) in
        let adds = pushes.adds in
        let so_far : played (n - (i + 1)) order (position graph ledger u) stream next ≡ later t.ranking = ap₂ (λ (x : Position) (k : ℕ). played (n - (i + 1)) order x stream k) adds.position_is pushes.place_is in
        record {
          ranking_is = kept ∙ left.ranking_is;
          stands = adds.stands;
          remains = record {
            position_is = ap (λ (z : Played). z.position) so_far ∙ sym (ap (λ (z : Played). z.position) rest) ∙ left.remains.position_is;
            text_is = ap₂ (λ (l : List ℕ) (z : Played). l ++ z.text) adds.text_is so_far ∙ append_assoc text (here t.ranking).line (later t.ranking).text ∙ sym (ap (λ (z : Played). text ++ z.text) rest) ∙ left.remains.text_is;
          };
        }

  pub left_all : n ≤ i → Plays graph made ledger (played n (before s.ranking) (position graph ledger s) stream 0) from t text
  left_all done =
      let none : n - i ≡ 0 = omega arith in
      let rest = ap (λ k. played k (before s.ranking) (position graph ledger t) stream place) none ∙ played_none (before s.ranking) (position graph ledger t) stream place in
      record {
        position_is = sym (ap (λ (z : Played). z.position) rest) ∙ left.remains.position_is;
        text_is = sym (append-nil text) ∙ sym (ap (λ (z : Played). text ++ z.text) rest) ∙ left.remains.text_is;
        stands = left.stands;
      }

-- ---- the input is refused only where it is too long

pub short_granted : (stream : List ℕ) → length stream ≤ 65536 → transcribing stream ≡ None
short_granted stream short = cond-false _ _ _ (le-ltb 65536 (length stream) short)

pub step_granted : (stream out : List ℕ) → stepping stream out ≡ None → transcribing stream ≡ None
step_granted stream out none = grind (arith, nat_tests)
