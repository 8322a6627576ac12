-- The free loads other than one that a load is linked to, by the tables.
use Rattle.std.proofs.Common.{◌≡◌, ℕ, zero, suc, ◌+◌, ◌<◌, ◌≤◌, Bool, true, false, not, ◌&&◌, eqb, ltb, Some, None, Option, MatchOption, sym, refl, ap, ◌∙◌, inl, inr, arith}
use mathlib.Core.Path.{fun_ext}
use Rattle.std.proofs.lemmas.Bool.{cases_lt, cases_eq, and_left, or_from, ne_eqb, both_ways}
use Rattle.std.proofs.lemmas.Bool.Decides.{nat_tests}
use Rattle.graph.specs.Graph.{Graph, Simple, count}
use Rattle.graph.proofs.Injections.{except, count_except}
use Rattle.rules.specs.First.{first}
use Rattle.rules.specs.Repair.{Ranking, any_below, ends_path}
use Rattle.tables.specs.declared.Tables.{Tables}
use Rattle.tables.specs.Views.{partners_of, free_degree_of, free_linked, Agrees}
use Rattle.tables.proofs.Firsts.{first_cut, past_size}
use Rattle.repair.specs.Paths.{FirstOther, HasOther}

-- some number passes a test if the count is not 0
any_count : (n : ℕ) (test : ℕ → Bool) → ltb 0 (count n test) ≡ any_below n test
any_count zero test = refl
any_count (suc n) test = let ih = any_count n test in grind (arith, nat_tests)

-- without a number that does not pass, the test is as it was
except_none : (test : ℕ → Bool) (a : ℕ) → test a ≡ false → (z : ℕ) → test z ≡ except test a z
except_none test a off z = elim (cases_eq z a) [
  | inl same ↦ let e = ap test same ∙ off in e ∙ sym (and_left (test z) _ e)
  | inr apart ↦ let e = ne_eqb z a apart in grind arith
]

pub any_nothing : (n : ℕ) → any_below n (λ _. false) ≡ false
any_nothing zero = refl
any_nothing (suc n) = or_from (any_below n (λ _. false)) false (any_nothing n) refl

-- what is asked of a partner, if there is one
pub asked : (test : Option ℕ → Bool) (o : Option ℕ) (r : Bool) (P : ℕ → Type 0) → MatchOption o (r ≡ false) P → test None ≡ false → ((y : ℕ) → P y → r ≡ test (Some y)) → r ≡ test o
asked test None r P h none some = h ∙ sym none
asked test (Some y) r P h none some = some y h

module _ (t : Tables) (y a : ℕ) where
  abbrev pub others : ℕ → Bool
  others z = free_linked t y z && not (eqb z a)

  module _ (g : Graph) (simple : Simple g) (k : Agrees g t) where
    others_are : others ≡ ends_path g (partners_of t) a (Some y)
    others_are = fun_ext (λ z. ap (λ (b : Bool). b && not (eqb z a)) (k.tracks.sets y z))

    free_past : (z : ℕ) → g.size ≤ z → free_linked t y z ≡ false
    free_past z h = k.tracks.sets y z ∙ and_left (g.linked y z) _ (past_size g simple y z h)

    counted : free_degree_of t y ≡ count g.size (free_linked t y)
    counted = k.tracks.counts y ∙ ap (count g.size) (sym (fun_ext (k.tracks.sets y)))

    inside : (z : ℕ) → free_linked t y z ≡ true → z < g.size
    inside z on = elim (cases_lt z g.size) [ inl l ↦ l | inr l ↦ absurd (both_ways (free_linked t y z) (free_past z l) on) ]

  pub first_other : (before : Ranking) {r : Option ℕ} → r ≡ first (before y) 256 others → FirstOther before y a t r
  first_other before e g simple k =
      e ∙ first_cut (before y) others g.size 256 simple.small (λ z h _. and_left (free_linked t y z) _ (free_past g simple k z h))
      ∙ ap (first (before y) g.size) (others_are g simple k)

  pub other_besides : free_linked t y a ≡ true → HasOther y a t (ltb 1 (free_degree_of t y))
  other_besides on g simple k =
      let less = count_except g.size (free_linked t y) a (inside g simple k a on) on in
      let same : ltb 1 (free_degree_of t y) ≡ ltb 0 (count g.size others) = ap (ltb 1) (counted g simple k) ∙ lower _ _ less in
      same ∙ any_count g.size others ∙ ap (any_below g.size) (others_are g simple k)
    where
      lower : (m n : ℕ) → m + 1 ≡ n → ltb 1 n ≡ ltb 0 m
      lower m n e = grind (arith, nat_tests)

  pub other_any : free_linked t y a ≡ false → HasOther y a t (ltb 0 (free_degree_of t y))
  other_any off g simple k =
      ap (ltb 0) (counted g simple k) ∙ any_count g.size (free_linked t y)
      ∙ ap (any_below g.size) (fun_ext (except_none (free_linked t y) a off) ∙ others_are g simple k)
