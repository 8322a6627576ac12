-- Boards whose position is known.
use Rattle.std.proofs.Common.{◌≡◌, ℕ, ◌≤◌, List, Some, None, Ok, Err, Option, Result, sym, ap, ◌∙◌, subst, ap₂}
use Rattle.graph.specs.Graph.{Graph}
use Rattle.links.specs.Books.{Ledger, Stands as BookStands}
use Rattle.links.specs.Refusals.{Answers, told}
use Rattle.links.specs.declared.refusal.Refused.{Refused}
use Rattle.rules.specs.Boards.{played_by, listed}
use Rattle.rules.specs.Calls.{Position, Call, Answer, reason, answer, after, opened}
use Rattle.rules.specs.Repair.{Ranking}
use Rattle.board.specs.declared.Board.{Board}
use Rattle.board.specs.Boards.{position, Stands, Opens, Steps}
use Rattle.board.specs.Runs.{none}
use Rattle.board.proofs.Runs.{by_rules, law}
use Rattle.board_examples.specs.Played.{Plays, Reads, linkings, first_refusal}
use Rattle.board_examples.proofs.Refusals.{answered}

-- the board stands at this position
pub record At {B R : Type 0} (graph : B → Graph) (made : B → Type 0) (ledger : B → Ledger) (s : Board B R) (x : Position) : Type 0 where
  pub stands : Stands graph made ledger s
  pub position_is : position graph ledger s ≡ x

module _ {B R : Type 0} {graph : B → Graph} {made : B → Type 0} {ledger : B → Ledger} {before : R → Ranking} where
  pub at_opening : (book : B) (ranking : R) (r : Board B R) (g : Graph) (l : Ledger) → BookStands graph made ledger book g l → Opens graph made ledger before book ranking r →
      At graph made ledger r (opened (before ranking) g l)
  at_opening book ranking r g l book-stands opens = record {
    stands = opens.stands book-stands.still_made;
    position_is = opens.position_is book-stands.still_made ∙ ap₂ (opened (before ranking)) book-stands.graph_is book-stands.ledger_is;
  }

module _ {B R F : Type 0} {graph : B → Graph} {made : B → Type 0} {ledger : B → Ledger} {fixed : B → F} {before : R → Ranking} where
  module _ (s t : Board B R) (x : Position) (at : At graph made ledger s x) where
    -- ---- links made in turn

    pub links_refused : (pairs : List (ℕ × ℕ)) (e : Refused) → Plays graph made ledger fixed before s pairs (Err e) t → first_refusal (before s.ranking) (linkings pairs) x ≡ Some (told e)
    links_refused pairs e plays =
        subst (λ (y : Position). first_refusal (before s.ranking) (linkings pairs) y ≡ Some (told e)) at.position_is (plays.answers at.stands)

    pub at_links : (pairs : List (ℕ × ℕ)) → Plays graph made ledger fixed before s pairs (Ok tt) t → At graph made ledger t (played_by (before s.ranking) (linkings pairs) x)
    at_links pairs plays = record {
      stands = (law graph made ledger fixed before s at.stands t (plays.run s none)).stands;
      position_is = (plays.answers at.stands).1 ∙ ap (played_by (before s.ranking) (linkings pairs)) at.position_is;
    }

    -- ---- a call, granted or refused

    pub call_answers : (c : Call) (r : Result (Answer c) Refused) → Steps graph made ledger fixed before s c r t → Answers (reason x c) r (λ v. v ≡ answer x c)
    call_answers c r steps =
        subst (λ (y : Position). Answers (reason y c) r (λ v. v ≡ answer y c)) at.position_is
        (by_rules graph made ledger fixed before s at.stands c r t steps).answers

    pub at_call : (c : Call) (r : Result (Answer c) Refused) → Steps graph made ledger fixed before s c r t → At graph made ledger t (after (before s.ranking) x c)
    at_call c r steps = record {
      stands = (steps.partners at.stands).stands;
      position_is =
          (by_rules graph made ledger fixed before s at.stands c r t steps).position_is
          ∙ ap (λ (y : Position). after (before s.ranking) y c) at.position_is;
    }

    pub told_at : (c : Call) (r : Result (Answer c) Refused) → reason x c ≡ None → Steps graph made ledger fixed before s c r t → r ≡ Ok (answer x c)
    told_at c r granted steps = answered (reason x c) r (answer x c) (call_answers c r steps) granted

module _ {B R : Type 0} {graph : B → Graph} {made : B → Type 0} {ledger : B → Ledger} (s : Board B R) (x : Position) (at : At graph made ledger s x) where
  pub read_at : (n : ℕ) (r : Result (List (Option ℕ)) Refused) → n ≤ x.graph.size → Reads graph made ledger s n r → r ≡ Ok (listed x.partners 0 n)
  read_at n r inside reads =
      reads at.stands (subst (λ (y : Position). n ≤ y.graph.size) (sym at.position_is) inside) ∙ ap (λ (y : Position). Ok (listed y.partners 0 n)) at.position_is
