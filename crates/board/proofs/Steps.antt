-- What a call promises, refused or granted.
use Rattle.std.proofs.Common.{◌≡◌, ℕ, ◌≤◌, List, true, IfOk, None, Ok, Option, Result, sym, refl, ap, ◌∙◌, subst}
use Rattle.graph.specs.Graph.{Graph, link_count}
use Rattle.graph.specs.Matching.{Partners, Matching}
use Rattle.links.specs.Books.{Ledger, Bounded, Stands as BookStands}
use Rattle.links.specs.Refusals.{Reason, Answers}
use Rattle.links.specs.declared.refusal.Refused.{Refused}
use Rattle.links.proofs.Reasons.{kept_same}
use Rattle.rules.specs.Calls.{Position, Call, Answer, is_question, reason, answer, unless, granted, after, repaired}
use Rattle.rules.specs.Health.{Sound}
use Rattle.rules.specs.Repair.{Ranking, repair}
use Rattle.rules.specs.Threshold.{threshold}
use Rattle.rules.proofs.Calls.{call_kept, call_follows}
use Rattle.rules.proofs.Questions.{question_same}
use Rattle.tables.specs.declared.Tables.{Tables}
use Rattle.tables.specs.Views.{partners_of, Agrees}
use Rattle.repair.specs.Holds.{Changes}
use Rattle.board.specs.declared.Board.{Board}
use Rattle.board.specs.Boards.{position, Stands, FollowsBook, FollowsRules, Steps}
use Rattle.board.proofs.Leaving.{InStep}

module _ {B R : Type 0} (graph : B → Graph) (made : B → Type 0) (ledger : B → Ledger) (before : R → Ranking) (s : Board B R) (c : Call) where
  abbrev x : Position
  x = position graph ledger s

  abbrev order : Ranking
  order = before s.ranking

  module _ (none : reason x c ≡ None) (v : Answer c) (t : Board B R) where
    after_granted : after order x c ≡ granted order x c
    after_granted = ap (λ (o : Option Reason). unless o x (granted order x c)) none

    pub granted_book : (y : Position) → granted order x c ≡ y → BookStands graph made ledger t.book y.graph y.ledger → FollowsBook graph made ledger order s c (Ok v) t
    granted_book y rules book =
        let led = sym (after_granted ∙ rules) in
        record {
          decides = (none, tt);
          book = record {
            graph_is = book.graph_is ∙ ap (λ (z : Position). z.graph) led;
            ledger_is = book.ledger_is ∙ ap (λ (z : Position). z.ledger) led;
            still_made = book.still_made;
          };
        }

    module _ (stands : Stands graph made ledger s) (value : v ≡ answer x c) (h : Graph) (l : Ledger) where
      pub granted_rules : (p : Partners) → granted order x c ≡ record { graph = h; ledger = l; partners = p } →
          InStep graph made ledger h l p t.book t.tables → link_count h ≤ l.limit → FollowsRules graph made ledger order s c (Ok v) t
      granted_rules p rules so within =
          let y = after order x c in
          let rules-after = sym (after_granted ∙ rules) in
          let at : position graph ledger t ≡ y = (λ i. record { graph = so.book.graph_is i; ledger = so.book.ledger_is i; partners = so.partners i }) ∙ rules-after in
          let limit_is = (call_follows order x stands.sound c).limit in
          let within-after : link_count y.graph ≤ y.ledger.limit = subst (λ (z : Position). link_count z.graph ≤ z.ledger.limit) rules-after within in
          let kept = call_kept order x stands.sound c (subst (λ (n : ℕ). link_count y.graph ≤ n) limit_is within-after) in
          record {
            value = value;
            partners = ap (λ (z : Position). z.partners) at;
            stands = record {
              book_made = so.book.still_made;
              agrees = subst (λ (k : Graph). Agrees k t.tables) (sym so.book.graph_is) so.agrees;
              sound = subst Sound (sym at) kept.sound;
            };
          }

      -- granted with a repair: of the tables u, in which the partners are p and which agree with the new graph h
      pub repaired_rules : (set : List ℕ) (p : Partners) → granted order x c ≡ repaired order h l set p →
          (u : Tables) → InStep graph made ledger h l p t.book u → Bounded (graph t.book) (ledger t.book) → Matching h p →
          Changes (graph t.book) (repair order (threshold (ledger t.book).limit) (graph t.book) set) u t.tables → FollowsRules graph made ledger order s c (Ok v) t
      repaired_rules set p rules u so bounded matching change =
          let graph_is = so.book.graph_is in
          let ledger_is = so.book.ledger_is in
          let matching-now = subst (λ (k : Graph). Matching k (partners_of u)) (sym graph_is) (subst (Matching h) (sym so.partners) matching) in
          let holds = change (subst (λ (k : Graph). Agrees k u) (sym graph_is) so.agrees) matching-now in
          let within = subst (λ (k : Ledger). link_count h ≤ k.limit) ledger_is (subst (λ (k : Graph). link_count k ≤ (ledger t.book).limit) graph_is bounded.within) in
          granted_rules (repair order (threshold l.limit) h set p) rules (record {
            book = so.book;
            agrees = subst (λ (k : Graph). Agrees k t.tables) graph_is holds.agrees;
            partners = holds.partners ∙ (λ i. repair order (threshold (ledger_is i).limit) (graph_is i) set (so.partners i));
          }) within

  module _ {F : Type 0} (fixed : B → F) where
    -- a call that leaves board and position as they were
    same_steps : (r : Result (Answer c) Refused) → (made s.book → after order x c ≡ x) → (made s.book → Answers (reason x c) r (λ _. Unit {0})) →
        (Stands graph made ledger s → IfOk r (λ v. v ≡ answer x c)) → Steps graph made ledger fixed before s c r s
    same_steps r same decides value = record {
      kept = kept_same r s;
      asked = λ _. refl;
      ranking_is = refl;
      fixed_is = refl;
      links = λ m. record {
        decides = decides m;
        book = record { graph_is = ap (λ (y : Position). y.graph) (sym (same m)); ledger_is = ap (λ (y : Position). y.ledger) (sym (same m)); still_made = m };
      };
      partners = λ stands. record {
        value = value stands;
        partners = ap (λ (y : Position). y.partners) (sym (same stands.book_made));
        stands = stands;
      };
    }

    pub question_steps : is_question c ≡ true → (r : Result (Answer c) Refused) → (made s.book → Answers (reason x c) r (λ _. Unit {0})) →
        (Stands graph made ledger s → IfOk r (λ v. v ≡ answer x c)) → Steps graph made ledger fixed before s c r s
    question_steps asks r = same_steps r (λ _. question_same order x c asks)
