-- The first number that passes a test passes it, and comes before every other that does.
use Rattle.std.proofs.Common.{◌≡◌, ℕ, zero, suc, ◌<◌, Bool, true, false, Some, None, sym, refl, inl, inr, arith}
use Rattle.std.proofs.lemmas.Bool.{cases_Bool, cases_eq, both_ways}
use Rattle.graph.proofs.Partners.{cases_option}
use Rattle.graph.proofs.Paths.{free_taken}
use Rattle.ranking.proofs.Orders.{other_first}
use Rattle.ranking.specs.Order.{StrictOrder}
use Rattle.rules.specs.First.{first}
use Rattle.rules.specs.Theorems.{Leads, FirstIs}

-- x is below n, and passes the test
pub record Found (n : ℕ) (test : ℕ → Bool) (x : ℕ) : Type 0 where
  pub inside : x < n
  pub passes : test x ≡ true

pub first_found : (before : ℕ → ℕ → Bool) (n : ℕ) (test : ℕ → Bool) (x : ℕ) → first before n test ≡ Some x → Found n test x
first_found before zero test x e = absurd (free_taken None x refl e)
first_found before (suc n) test x e =
    let ih = first_found before n test in elim (cases_Bool (test n)) [
      | inl t ↦ elim (cases_option (first before n test)) [
        | inl o ↦ let same : n ≡ x = cc in record { inside = omega arith; passes = rw (← same) t }
        | inr (y, o) ↦ elim (cases_Bool (before y n)) [
          | inl b ↦ let same : y ≡ x = cc in let f = ih y o in record { inside = omega arith; passes = rw (← same) f.passes }
          | inr b ↦ let same : n ≡ x = cc in record { inside = omega arith; passes = rw (← same) t }
        ]
      ]
      | inr t ↦ let f = ih x (cc) in record { inside = omega arith; passes = f.passes }
    ]

pub first_none : (before : ℕ → ℕ → Bool) (n : ℕ) (test : ℕ → Bool) → first before n test ≡ None → (x : ℕ) → x < n → test x ≡ false
first_none before zero test e x l = absurd (omega arith)
first_none before (suc n) test e x l = elim (cases_Bool (test n)) [
  | inl t ↦ cc
  | inr t ↦ elim (cases_eq x n) [ inl same ↦ cc | inr k ↦ first_none before n test (cc) x (omega arith) ]
]

first_leads : (before : ℕ → ℕ → Bool) → StrictOrder before → (n : ℕ) (test : ℕ → Bool) (x : ℕ) → first before n test ≡ Some x →
    (y : ℕ) → y < n → test y ≡ true → (y ≡ x → ⊥) → before x y ≡ true
first_leads before r zero test x e y l p k = absurd (omega arith)
first_leads before r (suc n) test x e y l p k =
    let ih = first_leads before r n test in elim (cases_Bool (test n)) [
      | inl t ↦ elim (cases_option (first before n test)) [
        | inl o ↦ let same : n ≡ x = cc in let lost = first_none before n test o y (omega arith) in cc
        | inr (z, o) ↦ elim (cases_Bool (before z n)) [
          | inl b ↦ let same : z ≡ x = cc in elim (cases_eq y n) [ inl s ↦ cc | inr s ↦ ih x (cc) y (omega arith) p k ]
          | inr b ↦ let same : n ≡ x = cc in
              let f = first_found before n test z o in
              let less : before n z ≡ true = other_first before r z n (λ w. omega (arith, f.inside)) b in
              elim (cases_eq y z) [ inl s ↦ cc | inr s ↦ let i = ih z o y (omega arith) p s in rw (← same) (r.transitive n z y less i) ]
        ]
      ]
      | inr t ↦ elim (cases_eq y n) [ inl s ↦ cc | inr s ↦ ih x (cc) y (omega arith) p k ]
    ]

-- of two that lead, each would come before the other
leads_single : (before : ℕ → ℕ → Bool) → StrictOrder before → (n : ℕ) (test : ℕ → Bool) (x y : ℕ) → Leads before n test x → Leads before n test y → x ≡ y
leads_single before r n test x y h k = elim (cases_eq x y) [
  | inl same ↦ same
  | inr apart ↦
      let forth = h.leads y k.inside k.passes (λ e. apart (sym e)) in
      let back = k.leads x h.inside h.passes apart in
      absurd (both_ways (before x x) (r.irreflexive x) (r.transitive x y x forth back))
]

pub first_is : (before : ℕ → ℕ → Bool) → StrictOrder before → (n : ℕ) (test : ℕ → Bool) → FirstIs before n test (first before n test)
first_is before r n test =
    let lead : (x : ℕ) → first before n test ≡ Some x → Leads before n test x = λ x e.
    let f = first_found before n test x e in record { inside = f.inside; passes = f.passes; leads = first_leads before r n test x e } in
    record {
      some = lead;
      only = λ x h. elim (cases_option (first before n test)) [
        | inl o ↦ absurd (both_ways (test x) (first_none before n test o x h.inside) h.passes)
        | inr (y, o) ↦ let same = leads_single before r n test y x (lead y o) h in cc
      ];
      none = first_none before n test;
      otherwise = λ h. elim (cases_option (first before n test)) [
        | inl o ↦ o
        | inr (y, o) ↦ let f = first_found before n test y o in absurd (both_ways (test y) (h y f.inside) f.passes)
      ];
    }
