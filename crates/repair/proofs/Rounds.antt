-- One step of a repair after another.
use Rattle.std.proofs.Common.{◌≡◌, ℕ, zero, suc, ◌+◌, ◌<◌, ◌≤◌, List, [], ◌∷◌, length, get_or, take, sym, refl, ap, ◌∙◌, subst, inl, inr, add-one, arith}
use Rattle.std.proofs.lemmas.List.{take_all}
use Rattle.graph.specs.Graph.{Graph, Simple}
use Rattle.graph.specs.Matching.{Partners, Matching}
use Rattle.rules.specs.Repair.{Ranking, match_free, each}
use Rattle.rules.proofs.MatchFree.{match_cases}
use Rattle.rules.proofs.Updates.{paired_matching}
use Rattle.tables.specs.declared.Tables.{Tables}
use Rattle.tables.specs.Views.{partners_of, Agrees}
use Rattle.tables.specs.Choices.{Matched}
use Rattle.repair.specs.Holds.{Changes, Holds}

module _ (g : Graph) where
  pub changes_then : (f h : Partners → Partners) {s u t : Tables} → Changes g f s u → Changes g h u t → Changes g (λ p. h (f p)) s t
  changes_then f h {s} {u} {t} first second k m =
      let done = first k m in
      subst (λ (q : Partners). Holds g (h q) t) done.partners (second done.agrees done.matching)

  -- matching a load with a free one keeps a matching
  pub matches : Simple g → (before : Ranking) (a : ℕ) {s t : Tables} → (Agrees g s → Matched before g a s t) → Changes g (match_free before g a) s t
  matches simple before a {s} {t} matched k m =
      let done = matched k in
      record {
        partners = done.partners;
        agrees = done.agrees;
        matching = subst (Matching g) (sym done.partners) (elim (match_cases before g simple (partners_of s) a) [
          | inl (same, _) ↦ subst (Matching g) (sym same) m
          | inr (b, free-a, free-b, link, same) ↦ subst (Matching g) (sym same) (paired_matching g simple (partners_of s) m a b free-a free-b link)
        ]);
      }

-- ---- a step at each load of a list

module _ (step : ℕ → Partners → Partners) where
  each_taken : (n : ℕ) (loads : List ℕ) (p : Partners) → n < length loads → each step (take (suc n) loads) p ≡ step (get_or loads n 0) (each step (take n loads) p)
  each_taken n [] p h = absurd (omega arith)
  each_taken zero (a ∷ rest) p h = refl
  each_taken (suc n) (a ∷ rest) p h = each_taken n rest (step a p) (omega arith)

  pub each_more : (g : Graph) (loads : List ℕ) (n : ℕ) {s u t : Tables} → n < length loads → Changes g (each step (take n loads)) s u → Changes g (step (get_or loads n 0)) u t →
      Changes g (each step (take (n + 1) loads)) s t
  each_more g loads n {s} {u} {t} h before here k m =
      subst (λ (q : Partners). Holds g q t) (sym (ap (λ (j : ℕ). each step (take j loads) (partners_of s)) (add-one n) ∙ each_taken n loads (partners_of s) h))
      (changes_then g (each step (take n loads)) (step (get_or loads n 0)) before here k m)

  pub each_all : (g : Graph) (loads : List ℕ) (n : ℕ) {s t : Tables} → length loads ≤ n → Changes g (each step (take n loads)) s t → Changes g (each step loads) s t
  each_all g loads n {s} {t} h done = subst (λ (l : List ℕ). Changes g (each step l) s t) (take_all n loads h) done
