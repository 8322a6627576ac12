-- A filter that hides nothing answers as the book below it.
use Rattle.std.proofs.Common.{◌≡◌, ℕ, Bool, true, false, cond, nat_lt, Option, Result, [], replicate, refl, ap₂, ◌∙◌, subst}
use Rattle.graph.specs.Graph.{Graph}
use Rattle.links.specs.declared.refusal.Refused.{Refused}
use Rattle.links.specs.Books.{Ledger, Stands, adding}
use Rattle.links.specs.Refusals.{Reason, Answers}
use Rattle.bits.specs.Bit.{bit}
use Rattle.class_filter.specs.declared.ClassFilter.{ClassFilter}
use Rattle.class_filter.specs.Classes.{class_of, bars_classes, hidden, filtered, filtered_ledger, filter_graph, FilterMade, filter_ledger}
use Rattle.class_filter.proofs.Filtered.{adding_filtered}

either_zero : (x : Bool) → ◌≡◌ {A = ℕ} (cond x 0 0) 0
either_zero true = refl
either_zero false = refl

no_class : (a : ℕ) → class_of [] a ≡ 0
no_class a = either_zero (nat_lt a 256)

no_bars : bars_classes (replicate 8 0) 0 0 ≡ false
unfolding bars_classes bit
no_bars = refl

-- without classes and bars no pair is hidden
open_pair : (a b : ℕ) → hidden [] (replicate 8 0) a b ≡ false
open_pair a b = ap₂ (bars_classes (replicate 8 0)) (no_class a) (no_class b) ∙ no_bars

pub unfiltered : {B : Type 0} (graph : B → Graph) (made : B → Type 0) (ledger : B → Ledger) (below : B) (f : ClassFilter B) (a b : ℕ) (r : Result Bool Refused)
    → Stands (filter_graph graph) (FilterMade made) (filter_ledger graph ledger) f (filtered (hidden [] (replicate 8 0)) (graph below)) (filtered_ledger (hidden [] (replicate 8 0)) (graph below).size (ledger below))
    → (FilterMade made f → Answers (adding (filter_graph graph f) (filter_ledger graph ledger f) a b) r (λ there. there ≡ true))
    → Answers (adding (graph below) (ledger below) a b) r (λ there. there ≡ true)
unfiltered graph made ledger below f a b r stands answer =
    subst (λ (o : Option Reason). Answers o r (λ there. there ≡ true))
    (ap₂ (λ (h : Graph) (m : Ledger). adding h m a b) stands.graph_is stands.ledger_is
    ∙ adding_filtered (hidden [] (replicate 8 0)) (graph below) a b (open_pair a b) (ledger below))
    (answer stands.still_made)
