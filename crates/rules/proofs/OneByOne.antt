-- Removing the links of a load one by one.
use Rattle.std.proofs.Common.{◌≡◌, ℕ, zero, suc, ◌+◌, Bool, cond, not, ◌&&◌, ◌||◌, eqb, ltb, refl, ◌∙◌, inl, inr, arith}
use Rattle.std.proofs.lemmas.Bool.{cases_Bool, lt-ltb}
use Rattle.std.proofs.lemmas.Bool.Decides.{nat_tests}
use Rattle.graph.specs.Graph.{Graph, Simple, count}
use Rattle.graph.specs.Isolated.{isolated}
use Rattle.links.specs.Books.{Ledger}
use Rattle.rules.specs.Calls.{released}
use Rattle.rules.specs.OneByOne.{stripped, stripped_ledger, OneByOne}

module _ (g : Graph) (s : Simple g) (a : ℕ) where
  pub stripped_size : (k : ℕ) → (stripped g a k).size ≡ g.size
  stripped_size zero = refl
  stripped_size (suc k) = elim (cases_Bool (g.linked a k)) [ inl on ↦ rw on (stripped_size k) | inr off ↦ rw off (stripped_size k) ]

  -- a link of a with a load below k
  abbrev gone : ℕ → ℕ → ℕ → Bool
  gone k x y = (eqb a x && ltb y k) || (eqb a y && ltb x k)

  stripped_linked : (k x y : ℕ) → (stripped g a k).linked x y ≡ (g.linked x y && not (gone k x y))
  stripped_linked zero x y = grind (arith, nat_tests)
  stripped_linked (suc k) x y =
      let ih = stripped_linked k x y in
      let turned = s.symmetric x y in
      elim (cases_Bool (g.linked a k)) [ inl on ↦ rw on (grind (arith, nat_tests)) | inr off ↦ rw off (grind (arith, nat_tests)) ]

  stripped_all : (x y : ℕ) → (stripped g a g.size).linked x y ≡ (isolated g a).linked x y
  stripped_all x y = stripped_linked g.size x y ∙ elim (cases_Bool (g.linked x y)) [
    | inr off ↦ rw off
    | inl on ↦ rw (lt-ltb x g.size (s.below x y on), lt-ltb y g.size (s.below y x (s.symmetric y x ∙ on))) (grind (arith, nat_tests))
  ]

  stripped_is : stripped g a g.size ≡ isolated g a
  stripped_is = λ i. record { size = stripped_size g.size i; linked = λ x y. stripped_all x y i }

  module _ (l : Ledger) where
    ledger_limit : (k : ℕ) → (stripped_ledger g l a k).limit ≡ l.limit
    ledger_limit zero = refl
    ledger_limit (suc k) = elim (cases_Bool (g.linked a k)) [ inl on ↦ rw on (ledger_limit k) | inr off ↦ rw off (ledger_limit k) ]

    ledger_barred : (k : ℕ) → (stripped_ledger g l a k).barred ≡ l.barred
    ledger_barred zero = refl
    ledger_barred (suc k) = elim (cases_Bool (g.linked a k)) [ inl on ↦ rw on (ledger_barred k) | inr off ↦ rw off (ledger_barred k) ]

    ledger_room : (k : ℕ) → (stripped_ledger g l a k).room ≡ l.room + count k (g.linked a)
    ledger_room zero = omega arith
    ledger_room (suc k) = let ih = ledger_room k in elim (cases_Bool (g.linked a k)) [ inl on ↦ rw on (omega arith) | inr off ↦ rw off (omega arith) ]

    ledger_spare : (k x : ℕ) → (stripped_ledger g l a k).spare x ≡ l.spare x + cond (eqb a x) (count k (g.linked a)) (cond (ltb x k && g.linked a x) 1 0)
    ledger_spare zero x = grind (arith, nat_tests)
    ledger_spare (suc k) x =
        let ih = ledger_spare k x in
        let none = s.loopless a in
        elim (cases_Bool (g.linked a k)) [ inl on ↦ rw on (grind (arith, nat_tests)) | inr off ↦ rw off (grind (arith, nat_tests)) ]

    spare_all : (x : ℕ) → (stripped_ledger g l a g.size).spare x ≡ (released g l a).spare x
    spare_all x = ledger_spare g.size x ∙ elim (cases_Bool (g.linked a x)) [
      | inl on ↦ rw (lt-ltb x g.size (s.below x a (s.symmetric x a ∙ on)))
      | inr off ↦ rw off (grind (arith, nat_tests))
    ]

    ledger_is : stripped_ledger g l a g.size ≡ released g l a
    ledger_is = λ i. record { limit = ledger_limit g.size i; barred = ledger_barred g.size i; spare = λ x. spare_all x i; room = ledger_room g.size i }

pub one_by_one : (g : Graph) → Simple g → (l : Ledger) (a : ℕ) → OneByOne g l a
one_by_one g s l a = record { graph = stripped_is g s a; ledger = ledger_is g s a l }
