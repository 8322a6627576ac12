-- A change of the book below, seen through a filter.
use Rattle.std.proofs.Common.{◌≡◌, ℕ, Bool, false, OnOk, Ok, Err, Option, Result, ap, ◌∙◌, ap₂}
use Rattle.graph.specs.Graph.{Graph}
use Rattle.links.specs.declared.refusal.Refused.{Refused}
use Rattle.links.specs.Books.{Ledger, Stands, Adds, Removes}
use Rattle.links.specs.Refusals.{Reason, Answers, Kept}
use Rattle.class_filter.specs.declared.ClassFilter.{ClassFilter}
use Rattle.class_filter.specs.Classes.{hidden, filtered, filtered_ledger, filter_graph, FilterMade, filter_ledger}
use Rattle.class_filter.proofs.Filtered.{hidden_symmetric, adding_filtered, removing_filtered, filtered_added, filtered_removed}

kept_map : {A S T : Type 0} (f : S → T) (r : Result A Refused) (s t : S) → Kept r s t → Kept r (f s) (f t)
kept_map f (Ok x) s t k = tt
kept_map f (Err e) s t k = ap f k

pub granted_below : (M P : Type 0) (reason : Option Reason) (r : Result Unit Refused) → (M → Answers reason r (λ _. P)) → OnOk r (M → P)
granted_below M P reason (Ok x) answers = λ made. (answers made).1
granted_below M P reason (Err e) answers = tt

module _ {B : Type 0} (graph : B → Graph) (made : B → Type 0) (ledger : B → Ledger) (s : ClassFilter B) (t : B) (a b : ℕ) (r : Result Unit Refused) (seen : hidden s.classes s.bars a b ≡ false) where
  hid : ℕ → ℕ → Bool
  hid = hidden s.classes s.bars

  over : B → ClassFilter B
  over x = record { below = x; classes = s.classes; bars = s.bars }

  -- granted below, the filter stands for what is left of the graph and of the ledger there
  answers_through : (r : Result Unit Refused) (reason same : Option Reason) (g h : Graph) (l : Ledger) → same ≡ reason → filtered hid g ≡ h → Answers reason r (λ _. Stands graph made ledger t g l)
      → Answers same r (λ _. Stands (filter_graph graph) (FilterMade made) (filter_ledger graph ledger) (over t) h (filtered_ledger hid g.size l))
  unfolding hid over
  answers_through (Ok x) reason same g h l e f (none, after) = (
    e ∙ none,
    record {
      graph_is = ap (filtered hid) after.graph_is ∙ f;
      ledger_is = ap₂ (λ (x : Graph) (y : Ledger). filtered_ledger hid x.size y) after.graph_is after.ledger_is;
      still_made = after.still_made;
    },
  )
  answers_through (Err x) reason same g h l e f why = e ∙ why

  pub adds_through : Adds graph made ledger s.below a b r t → Adds (filter_graph graph) (FilterMade made) (filter_ledger graph ledger) s a b r (record { below = t; classes = s.classes; bars = s.bars })
  unfolding hid over
  adds_through below =
      record {
        kept = kept_map over r s.below t below.kept;
        answers = λ m.
            answers_through r _ _ _ _ _ (adding_filtered hid (graph s.below) a b seen (ledger s.below))
            (filtered_added hid (graph s.below) a b seen (hidden_symmetric s.classes s.bars)) (below.answers m);
      }

  pub removes_through : Removes graph made ledger s.below a b r t → Removes (filter_graph graph) (FilterMade made) (filter_ledger graph ledger) s a b r (record { below = t; classes = s.classes; bars = s.bars })
  unfolding hid over
  removes_through below =
      record {
        kept = kept_map over r s.below t below.kept;
        answers = λ m.
            answers_through r _ _ _ _ _ (removing_filtered hid (graph s.below) a b seen)
            (filtered_removed hid (graph s.below) a b seen) (below.answers m);
      }
