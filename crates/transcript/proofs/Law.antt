-- The law of runs, at every moment of the play of an input.
use Rattle.std.proofs.Common.{ℕ, zero, suc, List, ◌==◌, sym, refl, subst, lit≤}
use Rattle.std.proofs.lemmas.Bool.{cond_both}
use Rattle.graph.specs.Graph.{no_links}
use Rattle.links.specs.Books.{fresh_ledger}
use Rattle.rules.specs.Boards.{by_number, fresh}
use Rattle.rules.specs.Calls.{Position}
use Rattle.rules.specs.Laws.{Run, none, more, Moment}
use Rattle.rules.specs.Repair.{Ranking}
use Rattle.rules.proofs.Boards.{fresh_proper}
use Rattle.rules.proofs.Runs.{law_of_runs}
use Rattle.stream.specs.Replies.{call_of}
use Rattle.stream.specs.Steps.{Found, at_end, no_command, command, found_at, Step, step_of, step_at}
use Rattle.transcript.proofs.Playing.{played_none, played_step}
use Rattle.transcript.specs.Transcript.{Played, and_then, played, start, transcript, moment, KeepsLaw}

module _ (before : Ranking) (first : Position) where
  step_run : (x : Position) (place : ℕ) (f : Found) → Run before first x → Run before first (step_of before x place f).position
  step_run x place at_end run = run
  step_run x place (no_command why) run = run
  step_run x place (command c) run = more x (call_of c) run

  and_then_run : (place : ℕ) (y : Step) (rest : Played) → Run before first y.position → Run before first rest.position → Run before first (and_then place y rest).position
  and_then_run place y rest one all = cond_both (y.place == place) _ _ (λ (z : Played). Run before first z.position) (λ _. one) (λ _. all)

  played_run : (n : ℕ) (x : Position) (stream : List ℕ) (place : ℕ) → Run before first x → Run before first (played n before x stream place).position
  played_run zero x stream place run = subst (λ (z : Played). Run before first z.position) (sym (played_none before x stream place)) run
  played_run (suc n) x stream place run =
      let y = step_at before x stream place in
      let one = step_run x place (found_at stream place) run in
      subst (λ (z : Played). Run before first z.position) (sym (played_step n before x stream place))
      (and_then_run place y (played n before y.position stream y.place) one (played_run n y.position stream y.place one))

start_law : (x : Position) → Run by_number (fresh 256 2048) x → Moment by_number (fresh 256 2048) x
start_law = law_of_runs by_number (no_links 256) (fresh_ledger 256 255 2048) (fresh_proper 256 2048 (lit≤ tt) (lit≤ tt))

moment_law : (input : List ℕ) (n : ℕ) → Moment by_number (fresh 256 2048) (moment input n)
unfolding start
moment_law input n = start_law (moment input n) (played_run by_number (fresh 256 2048) n (fresh 256 2048) input 0 none)

pub keeps_law : (input : List ℕ) → KeepsLaw input
unfolding transcript
keeps_law input = record {
  sound = λ n. (moment_law input n).sound;
  two_thirds = λ n. (moment_law input n).two_thirds;
  listed = refl;
}
