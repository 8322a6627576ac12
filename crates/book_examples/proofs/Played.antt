-- Calls that add, on any book.
use Rattle.std.proofs.Common.{◌≡◌, ℕ, Some, None, Ok, Err, Option, Result, sym, refl, ◌∙◌, subst, arith}
use Rattle.graph.specs.Graph.{Graph, added, removed}
use Rattle.links.specs.declared.refusal.Refused.{Refused}
use Rattle.links.specs.Books.{Ledger, Stands, Adds, Removes, adding, removing, lowered, raised, by_book}
use Rattle.links.specs.Refusals.{Reason, Answers, Kept, told}
use Rattle.book_examples.specs.Answers.{GrantedThenRefused}

no_reason : (r : Reason) → ◌≡◌ {A = Option Reason} (Some r) None → ⊥
no_reason r e = let z : ◌≡◌ {A = ℕ} 0 1 = cc in omega arith

-- an answer that is granted
pub granted_answers : (reason : Option Reason) (r : Result Unit Refused) (P : Type 0) → r ≡ Ok tt → reason ≡ None → P → Answers reason r (λ _. P)
granted_answers reason (Ok u) P ok none p = (none, p)
granted_answers reason (Err x) P ok none p = cc

pub granted_keeps : {M : Type 0} (r : Result Unit Refused) (before after : M) → r ≡ Ok tt → Kept r before after
granted_keeps (Ok u) before after ok = tt
granted_keeps (Err x) before after ok = cc

module _ {S : Type 0} (graph : S → Graph) (made : S → Type 0) (ledger : S → Ledger) where
  -- the reason of a call on a value that stands for g and l
  reason_at : (s t : S) (g : Graph) (l : Ledger) (a b : ℕ) (r : Result Unit Refused) → Stands graph made ledger s g l → Adds graph made ledger s a b r t → Answers (adding g l a b) r (λ _. Stands graph made ledger t (added g a b) (lowered l a b))
  reason_at s t g l a b r stands adds =
      subst (λ (h : Graph). Answers (adding h l a b) r (λ _. Stands graph made ledger t (added h a b) (lowered l a b))) stands.graph_is
      (subst (λ (m : Ledger). Answers (adding (graph s) m a b) r (λ _. Stands graph made ledger t (added (graph s) a b) (lowered m a b))) stands.ledger_is
      (adds.answers stands.still_made))

  granted : (g : Graph) (l : Ledger) (a b : ℕ) (t : S) (r : Result Unit Refused) → Answers (adding g l a b) r (λ _. Stands graph made ledger t (added g a b) (lowered l a b)) → adding g l a b ≡ None → (r ≡ Ok tt) × Stands graph made ledger t (added g a b) (lowered l a b)
  granted g l a b t (Ok u) h e = (refl, h.1)
  granted g l a b t (Err x) h e = absurd (no_reason (told x) (sym h ∙ e))

  pub granted_add : (s t : S) (g : Graph) (l : Ledger) (a b : ℕ) (r : Result Unit Refused) → Stands graph made ledger s g l → Adds graph made ledger s a b r t → adding g l a b ≡ None → (r ≡ Ok tt) × Stands graph made ledger t (added g a b) (lowered l a b)
  granted_add s t g l a b r stands adds = granted g l a b t r (reason_at s t g l a b r stands adds)

  pub granted_remove : (s t : S) (g : Graph) (l : Ledger) (a b : ℕ) (r : Result Unit Refused) → Stands graph made ledger s g l → Removes graph made ledger s a b r t → removing g a b ≡ None → (r ≡ Ok tt) × Stands graph made ledger t (removed g a b) (raised l a b)
  granted_remove s t g l a b r stands removes none =
      by_answer r
      (subst (λ (h : Graph). Answers (removing h a b) r (λ _. Stands graph made ledger t (removed h a b) (raised l a b))) stands.graph_is
      (subst (λ (m : Ledger). Answers (removing (graph s) a b) r (λ _. Stands graph made ledger t (removed (graph s) a b) (raised m a b))) stands.ledger_is
      (removes.answers stands.still_made)))
    where
      by_answer : (r : Result Unit Refused) → Answers (removing g a b) r (λ _. Stands graph made ledger t (removed g a b) (raised l a b)) → (r ≡ Ok tt) × Stands graph made ledger t (removed g a b) (raised l a b)
      by_answer (Ok u) h = (refl, h.1)
      by_answer (Err x) h = absurd (no_reason (told x) (sym h ∙ none))

  refused : (g : Graph) (l : Ledger) (a b number : ℕ) (t : S) (r : Result Unit Refused) → Answers (adding g l a b) r (λ _. Stands graph made ledger t (added g a b) (lowered l a b)) → adding g l a b ≡ by_book number → Answers (by_book number) r (λ _. ⊥)
  refused g l a b number t (Ok u) h e = absurd (no_reason _ (sym e ∙ h.0))
  refused g l a b number t (Err x) h e = sym e ∙ h

  pub granted_then_refused : (s t u : S) (g : Graph) (l : Ledger) (a b x y number : ℕ) (first second : Result Unit Refused) → Stands graph made ledger s g l → Adds graph made ledger s a b first t → Adds graph made ledger t x y second u → adding g l a b ≡ None → adding (added g a b) (lowered l a b) x y ≡ by_book number → GrantedThenRefused number first second
  granted_then_refused s t u g l a b x y number first second stands one two none reason =
      let (yes-one, after) = granted g l a b t first (reason_at s t g l a b first stands one) none in
      record { granted = yes-one; refused = refused (added g a b) (lowered l a b) x y number u second (reason_at t u (added g a b) (lowered l a b) x y second after two) reason }
