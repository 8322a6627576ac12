-- Links made on a board one after another.
use Rattle.std.proofs.Common.{◌≡◌, ℕ, zero, suc, ◌+◌, ◌<◌, List, [], ◌∷◌, ◌++◌, length, take, set, IsErrAnd, Ok, Err, Option, Result, sym, refl, ap, ◌∙◌, subst, ap₂, add-one, arith}
use Rattle.std.proofs.lemmas.List.{take_more_set}
use Rattle.graph.specs.Graph.{Graph}
use Rattle.links.specs.Books.{Ledger}
use Rattle.links.specs.Refusals.{Reason, Answers}
use Rattle.links.specs.declared.refusal.Refused.{Refused}
use Rattle.links.proofs.Reasons.{refused_by}
use Rattle.rules.specs.Boards.{played_by, listed}
use Rattle.rules.specs.Calls.{Position, link, after}
use Rattle.rules.specs.Repair.{Ranking}
use Rattle.board.specs.declared.Board.{Board}
use Rattle.board.specs.Boards.{position, Steps}
use Rattle.board.specs.Runs.{more}
use Rattle.board.proofs.Runs.{by_rules}
use Rattle.board_examples.specs.Played.{Plays, linkings, or_else, first_refusal}

module _ {B R F : Type 0} (graph : B → Graph) (made : B → Type 0) (ledger : B → Ledger) (fixed : B → F) (before : R → Ranking) where
  pub plays_none : (s : Board B R) → Plays graph made ledger fixed before s [] (Ok tt) s
  plays_none s = record { run = λ first run. run; answers = λ _. (refl, refl) }

  module _ (s t : Board B R) (a b : ℕ) (rest : List (ℕ × ℕ)) where
    -- refused as by a `?`
    pub plays_stopped : (e : Refused) (r : Result Unit Refused) → IsErrAnd r (λ x. x ≡ e) → Steps graph made ledger fixed before s (link a b) (Err e) t →
        Plays graph made ledger fixed before s ((a, b) ∷ rest) r t
    plays_stopped e r by step =
        let order = before s.ranking in
        let later = first_refusal order (linkings rest) (after order (position graph ledger s) (link a b)) in
        record {
          run = λ first run. more s run (link a b) (Err e) t step;
          answers = λ stood. refused_by _ e r _ by (ap (λ (o : Option Reason). or_else o later) (step.links stood.book_made).decides);
        }

    pub plays_more : (u : Board B R) (r : Result Unit Refused) → Steps graph made ledger fixed before s (link a b) (Ok tt) t →
        Plays graph made ledger fixed before t rest r u → Plays graph made ledger fixed before s ((a, b) ∷ rest) r u
    plays_more u r step plays =
        let order = before s.ranking in
        let y = after order (position graph ledger s) (link a b) in
        record {
          run = λ first run. plays.run first (more s run (link a b) (Ok tt) t step);
          answers = λ stood.
              let led = by_rules graph made ledger fixed before s stood (link a b) (Ok tt) t step in
              subst (λ (o : Option Reason). Answers (or_else o (first_refusal order (linkings rest) y)) r (λ _. position graph ledger u ≡ played_by order (linkings rest) y)) (sym led.answers.0)
              (subst (λ (x : Position). Answers (first_refusal order (linkings rest) x) r (λ _. position graph ledger u ≡ played_by order (linkings rest) x)) led.position_is
              (subst (λ (o : R). Answers (first_refusal (before o) (linkings rest) (position graph ledger t)) r (λ _. position graph ledger u ≡ played_by (before o) (linkings rest) (position graph ledger t))) step.ranking_is
              (plays.answers (step.partners stood).stands)));
        }

listed_more : {A : Type 0} (f : ℕ → A) (i n : ℕ) → listed f i (n + 1) ≡ listed f i n ++ f (i + n) ∷ []
listed_more f i zero = let e : i ≡ i + 0 = omega arith in ap (λ (k : ℕ). f k ∷ []) e
listed_more f i (suc n) =
    let e : i + 1 + n ≡ i + suc n = omega arith in
    ap (listed f i) (add-one (suc n)) ∙ ap (λ l. f i ∷ l) (ap (listed f (i + 1)) (sym (add-one n)) ∙ listed_more f (i + 1) n ∙ ap (λ (k : ℕ). listed f (i + 1) n ++ f k ∷ []) e)

pub read_more : {A : Type 0} (f : ℕ → A) (xs : List A) (n : ℕ) (x : A) → n < length xs → take n xs ≡ listed f 0 n → x ≡ f n → take (n + 1) (set xs n x) ≡ listed f 0 (n + 1)
read_more f xs n x room so_far next =
    let e : n ≡ 0 + n = omega arith in
    take_more_set xs n x room ∙ ap₂ (λ l y. l ++ y ∷ []) so_far (next ∙ ap f e) ∙ sym (listed_more f 0 n)
