-- The number of loads that have a partner.
use Rattle.std.proofs.Common.{◌≡◌, ℕ, zero, suc, ◌≤◌, Bool, List, length, get_or, take, Option, is_some, sym, refl, ap, ◌∙◌, inl, inr, add-one, arith}
use Rattle.std.specs.List.{count_by}
use Rattle.std.proofs.lemmas.Bool.{cases_Bool}
use Rattle.std.proofs.lemmas.List.{take_all}
use Rattle.std.proofs.lemmas.List.Sums.{count_by_more_yes, count_by_more_no}
use Rattle.graph.specs.Graph.{Graph, count}
use Rattle.graph.specs.Pairs.{has_partner}
use Rattle.graph.proofs.Counts.{count_cut}
use Rattle.tables.specs.declared.Tables.{Tables}
use Rattle.tables.specs.declared.Record.{Record}
use Rattle.tables.specs.Views.{blank, partners_of, matched_of, Agrees}

-- past the size no load has a partner
pub matched_below : (g : Graph) (t : Tables) → g.size ≤ 256 → Agrees g t → matched_of t ≡ count g.size (has_partner (partners_of t))
unfolding matched_of
matched_below g t small k =
    count_cut 256 g.size (has_partner (partners_of t)) small (λ a past _. ap (λ (o : Option ℕ). is_some o) (k.beyond a past))

-- ---- counted over the list of records

count_taken : {X : Type 0} (p : X → Bool) (xs : List X) (d : X) (n : ℕ) → n ≤ length xs → count n (λ k. p (get_or xs k d)) ≡ count_by p (take n xs)
count_taken p xs d zero h = refl
count_taken p xs d (suc n) h =
    let ih = count_taken p xs d n (omega arith) in
    elim (cases_Bool (p (get_or xs n d))) [
      | inl on ↦ rw on (omega (arith, ih, rw add-one at (count_by_more_yes p xs n d (omega arith) on)))
      | inr off ↦ rw off (omega (arith, ih, rw add-one at (count_by_more_no p xs n d (omega arith) off)))
    ]

pub matched_listed : (t : Tables) → length t.records ≡ 256 → matched_of t ≡ count_by (λ (r : Record). is_some r.partner) t.records
unfolding matched_of
matched_listed t whole =
    let p = λ (r : Record). is_some r.partner in
    ap (λ (n : ℕ). count n (λ k. p (get_or t.records k blank))) (sym whole)
    ∙ count_taken p t.records blank (length t.records) (omega arith) ∙ ap (count_by p) (take_all (length t.records) t.records (omega arith))
