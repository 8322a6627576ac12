-- Books that bring links, before a board is opened on them.
use Rattle.std.proofs.Common.{◌≡◌, ℕ, Bool, None, Ok, Err, Result, ap, ◌∙◌, subst, ap₂}
use Rattle.graph.specs.Graph.{Graph, added}
use Rattle.links.specs.Books.{Ledger, Stands, Adds, adding, lowered}
use Rattle.links.specs.Refusals.{Answers}
use Rattle.links.specs.declared.refusal.Refused.{Refused}
use Rattle.class_filter.specs.declared.ClassFilter.{ClassFilter}
use Rattle.class_filter.specs.Classes.{filtered, filtered_ledger, filter_graph, FilterMade, filter_ledger}
use Rattle.board_examples.proofs.Refusals.{not_refused}

module _ {B : Type 0} {graph : B → Graph} {made : B → Type 0} {ledger : B → Ledger} where
  pub add_answers : (s t : B) (g : Graph) (l : Ledger) (a b : ℕ) (r : Result Unit Refused) → Stands graph made ledger s g l → Adds graph made ledger s a b r t →
      Answers (adding g l a b) r (λ _. Stands graph made ledger t (added g a b) (lowered l a b))
  add_answers s t g l a b r stands adds =
      subst (λ (h : Graph). Answers (adding h l a b) r (λ _. Stands graph made ledger t (added h a b) (lowered l a b))) stands.graph_is
      (subst (λ (m : Ledger). Answers (adding (graph s) m a b) r (λ _. Stands graph made ledger t (added (graph s) a b) (lowered m a b))) stands.ledger_is
      (adds.answers stands.still_made))

  -- a filter over a book
  pub behind : (below : B) (f : ClassFilter B) (g : Graph) (l : Ledger) (hid : ℕ → ℕ → Bool) → Stands graph made ledger below g l →
      (made below → Stands (filter_graph graph) (FilterMade made) (filter_ledger graph ledger) f (filtered hid (graph below)) (filtered_ledger hid (graph below).size (ledger below))) →
      Stands (filter_graph graph) (FilterMade made) (filter_ledger graph ledger) f (filtered hid g) (filtered_ledger hid g.size l)
  behind below f g l hid stands over =
      let f-stands = over stands.still_made in
      record {
        graph_is = f-stands.graph_is ∙ ap (filtered hid) stands.graph_is;
        ledger_is = f-stands.ledger_is ∙ ap₂ (λ (h : Graph) (m : Ledger). filtered_ledger hid h.size m) stands.graph_is stands.ledger_is;
        still_made = f-stands.still_made;
      }

  -- a link that there is no reason to refuse is added
  pub added_stands : (s t : B) (g : Graph) (l : Ledger) (a b : ℕ) (r : Result Unit Refused) → adding g l a b ≡ None → Stands graph made ledger s g l → Adds graph made ledger s a b r t →
      Stands graph made ledger t (added g a b) (lowered l a b)
  added_stands s t g l a b (Ok x) none stands adds = (add_answers s t g l a b (Ok x) stands adds).1
  added_stands s t g l a b (Err e) none stands adds = absurd (not_refused e none (add_answers s t g l a b (Err e) stands adds))
