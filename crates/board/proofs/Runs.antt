-- The law of runs, from what each call's contract ensures.
use Rattle.std.proofs.Common.{◌≡◌, ℕ, ◌≤◌, IfOk, Ok, Err, Option, Result, sym, refl, ◌∙◌, subst}
use Rattle.graph.specs.Graph.{Graph, link_count}
use Rattle.links.specs.Books.{Ledger}
use Rattle.links.specs.Refusals.{Reason, Answers}
use Rattle.links.specs.declared.refusal.Refused.{Refused}
use Rattle.rules.specs.Calls.{Position, Call, Answer, reason, answer, after}
use Rattle.rules.specs.Health.{Follows, changes}
use Rattle.rules.specs.Laws.{allowed}
use Rattle.rules.specs.Repair.{Ranking}
use Rattle.rules.proofs.Calls.{call_follows, call_kept}
use Rattle.rules.proofs.Runs.{sound_two_thirds}
use Rattle.rules.proofs.Threshold.{threshold_least}
use Rattle.board.specs.declared.Board.{Board}
use Rattle.board.specs.Boards.{position, Stands, Steps}
use Rattle.board.specs.Runs.{Run, none, more, ByRules, Moment, Law}

-- an answer that is refused or granted for a reason, and what is known of the value that is granted
answered : {A : Type 0} (why : Option Reason) (r : Result A Refused) (P : A → Type 0) → Answers why r (λ _. Unit {0}) → IfOk r P → Answers why r P
answered why (Ok v) P decides value = (decides.0, value)
answered why (Err e) P decides value = decides

module _ {B R F : Type 0} (graph : B → Graph) (made : B → Type 0) (ledger : B → Ledger) (fixed : B → F) (before : R → Ranking) where
  -- what calls keep: a board that stands, with the ranking of the first, and what no call of a book changes
  record Lasts (first s : Board B R) : Type 0 where
    stands : Stands graph made ledger s
    ranking_is : s.ranking ≡ first.ranking
    fixed_is : fixed s.book ≡ fixed first.book

  lasts : (first s : Board B R) → Stands graph made ledger first → Run graph made ledger fixed before first s → Lasts first s
  lasts first s stands none = record { stands = stands; ranking_is = refl; fixed_is = refl }
  lasts first s stands (more s₀ run c r t step) =
      let so_far = lasts first s₀ stands run in
      record {
        stands = (step.partners so_far.stands).stands;
        ranking_is = step.ranking_is ∙ so_far.ranking_is;
        fixed_is = step.fixed_is ∙ so_far.fixed_is;
      }

  pub by_rules : (s : Board B R) → Stands graph made ledger s → (c : Call) (r : Result (Answer c) Refused) (t : Board B R) → Steps graph made ledger fixed before s c r t →
      ByRules graph made ledger fixed before (before s.ranking) s c r t
  by_rules s stands c r t step =
      let x = position graph ledger s in
      let order = before s.ranking in
      let links = step.links stands.book_made in
      let led = step.partners stands in
      let y = after order x c in
      let at : position graph ledger t ≡ y = λ i. record { graph = links.book.graph_is i; ledger = links.book.ledger_is i; partners = led.partners i } in
      let follows = call_follows order x stands.sound c in
      let within : link_count y.graph ≤ y.ledger.limit = subst (λ (z : Position). link_count z.graph ≤ z.ledger.limit) at led.stands.sound.bounded.within in
      let kept = call_kept order x stands.sound c (subst (λ (n : ℕ). link_count y.graph ≤ n) follows.limit within) in
      record {
        answers = answered (reason x c) r (λ v. v ≡ answer x c) links.decides led.value;
        position_is = at;
        follows = subst (Follows x) (sym at) follows;
        few = subst (λ (z : Position). changes x z ≤ allowed (reason x c) c) (sym at) kept.few;
      }

  moment : (first s : Board B R) → Lasts first s → Moment graph made ledger fixed before first s
  moment first s so_far =
      let stands = so_far.stands in
      record {
        stands = stands;
        threshold_is = threshold_least (ledger s.book).limit;
        two_thirds = sound_two_thirds (position graph ledger s) stands.sound;
        ranking_is = so_far.ranking_is;
        fixed_is = so_far.fixed_is;
        next = λ c r t step. subst (λ (o : R). ByRules graph made ledger fixed before (before o) s c r t) so_far.ranking_is (by_rules s stands c r t step);
      }

  pub law : (first : Board B R) → Stands graph made ledger first → Law graph made ledger fixed before first
  law first stands s run = moment first s (lasts first s stands run)
