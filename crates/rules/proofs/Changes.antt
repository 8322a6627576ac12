-- How many partners the steps of a repair change.
use Rattle.std.proofs.Common.{◌≡◌, ℕ, suc, ◌≤◌, Bool, true, false, cond, not, eqb, ltb, List, [], ◌∷◌, length, Some, None, Option, refl, ◌∙◌, inl, inr, arith}
use Rattle.std.proofs.lemmas.Bool.{cases_Bool, cases_eq, cases_lt, both_ways, and_from, and_left, and_right, not_from_false, ne_eqb, eq-eqb, le-ltb}
use Rattle.graph.specs.Graph.{Graph, Simple, count, degree}
use Rattle.graph.specs.Matching.{Partners}
use Rattle.graph.specs.Pairs.{is_free}
use Rattle.graph.proofs.Counts.{count_none}
use Rattle.graph.proofs.Injections.{except, count_except, count_except_above, count_below}
use Rattle.graph.proofs.Partners.{cases_option}
use Rattle.rules.specs.First.{first}
use Rattle.rules.specs.Health.{same_partner}
use Rattle.rules.specs.Repair.{Ranking, paired, freed, paired_found, ends_path, path_start_of, exchanged, augmented_from, light_start_of, displaced, displaced_from, displace, improved, improve}
use Rattle.rules.proofs.Improve.{taken_path}
use Rattle.rules.proofs.Phases.{AugmentPhase}
use Rattle.rules.proofs.Repair.{Outside}
use Rattle.rules.proofs.Updates.{paired_other}

-- the same but at the numbers of a list
abbrev pub Alike : List ℕ → Partners → Partners → Type 0
Alike l p q = (w : ℕ) → Outside l w → q w ≡ p w

-- the same but at n numbers at most
abbrev pub AtMost : ℕ → Partners → Partners → Type 0
AtMost n p q = (l : List ℕ) × (length l ≤ n) × Alike l p q

-- the same but at a and at n others at most
abbrev pub Besides : ℕ → ℕ → Partners → Partners → Type 0
Besides a n p q = (l : List ℕ) × (length l ≤ n) × Alike (a ∷ l) p q

-- ---- counting them

same_self : (o : Option ℕ) → same_partner o o ≡ true
same_self None = refl
same_self (Some x) = eq-eqb x x refl

count_one : (n : ℕ) (test : ℕ → Bool) (a : ℕ) → count n test ≤ suc (count n (except test a))
count_one n test a = elim (cases_lt a n) [
  | inr past ↦ omega (arith, count_except_above n test a past)
  | inl below ↦ elim (cases_Bool (test a)) [
    | inl on ↦ omega (arith, count_except n test a below on)
    | inr off ↦ let k = count_below n test (except test a) (λ x _ i. and_from (test x) (not (eqb x a)) i
        (not_from_false (eqb x a) (ne_eqb x a (λ w. both_ways (test x) (cc) i)))) in omega arith
  ]
]

count_outside : (n : ℕ) (l : List ℕ) (test : ℕ → Bool) → ((w : ℕ) → Outside l w → test w ≡ false) → count n test ≤ length l
count_outside n [] test off = omega (arith, count_none n test (λ w _. off w tt))
count_outside n (a ∷ l) test off =
    let k = count_outside n l (except test a) (λ w o. elim (cases_eq w a)
    [ inl i ↦ and_right (test w) (not (eqb w a)) (cc (eq-eqb w a i)) | inr i ↦ and_left (test w) (not (eqb w a)) (off w (i, o)) ]) in
    omega (arith, count_one n test a)

pub at_most_count : (n m : ℕ) (p q : Partners) → AtMost m p q → count n (λ a. not (same_partner (p a) (q a))) ≤ m
at_most_count n m p q (l, few, alike) =
    let k = count_outside n l (λ a. not (same_partner (p a) (q a))) (λ w o. rw (alike w o) (cc (same_self (p w)))) in omega arith

-- ---- the steps

pub paired_alike : (a b : ℕ) (p : Partners) → Alike (a ∷ b ∷ []) p (paired a b p)
paired_alike a b p w (i, (j, _)) = paired_other a b p w i j

unchanged : (a n : ℕ) (p : Partners) → Besides a n p p
unchanged a n p = ([], omega arith, λ w _. refl)

paired_found_few : (a : ℕ) (o : Option ℕ) (p : Partners) → Besides a 1 p (paired_found a o p)
paired_found_few a None p = unchanged a 1 p
paired_found_few a (Some b) p = (b ∷ [], omega arith, paired_alike a b p)

module _ (before : Ranking) (g : Graph) where
  exchanged_few : (p : Partners) (a x : ℕ) (o : Option ℕ) → Besides a 3 p (exchanged before g p a x o)
  exchanged_few p a x None = unchanged a 3 p
  exchanged_few p a x (Some y) =
      let (l, few, h) = paired_found_few y (first (before y) g.size (ends_path g p a (Some y))) (paired a x p) in
      (x ∷ y ∷ l, omega arith, λ w (i, (j, k)). h w k ∙ paired_alike a x p w (i, (j, tt)))

  augmented_few : (p : Partners) (a : ℕ) (o : Option ℕ) → Besides a 3 p (augmented_from before g p a o)
  augmented_few p a None = unchanged a 3 p
  augmented_few p a (Some x) = exchanged_few p a x (p x)

  module _ (t : ℕ) where
    displaced_few : (p : Partners) (a x : ℕ) (o : Option ℕ) → Besides a 5 p (displaced before t g p a x o)
    displaced_few p a x None = unchanged a 5 p
    displaced_few p a x (Some y) =
        let q : Partners = freed y (paired a x p) in
        let (l, few, h) = augmented_few q y (path_start_of before g q y) in (
          x ∷ y ∷ l,
          omega arith,
          λ w (i, (j, k)).
              let same : q w ≡ paired a x p w = cc (ne_eqb w y k.0) in
              h w k ∙ (same ∙ paired_alike a x p w (i, (j, tt))),
        )

    displaced_from_few : (p : Partners) (a : ℕ) (o : Option ℕ) → Besides a 5 p (displaced_from before t g p a o)
    displaced_from_few p a None = unchanged a 5 p
    displaced_from_few p a (Some x) = displaced_few p a x (p x)

    displace_few : (p : Partners) (a : ℕ) → Besides a 5 p (displace before t g a p)
    displace_few p a = elim (ltb t (degree g a)) as (λ v. Besides a 5 p (cond v (displaced_from before t g p a (light_start_of before t g p a)) p))
        [ true ↦ displaced_from_few p a (light_start_of before t g p a) | false ↦ unchanged a 5 p ]

    improved_few : (p : Partners) (a : ℕ) (o : Option ℕ) → Besides a 5 p (improved before t g p a o)
    improved_few p a None = displace_few p a
    improved_few p a (Some x) = let (l, few, h) = exchanged_few p a x (p x) in (l, omega arith, h)

    pub improve_few : (p : Partners) (a : ℕ) → Besides a 5 p (improve before t g a p)
    improve_few p a = elim (is_free p a) as (λ v. Besides a 5 p (cond v (improved before t g p a (path_start_of before g p a)) p))
        [ true ↦ improved_few p a (path_start_of before g p a) | false ↦ unchanged a 5 p ]

    pub improve_taken : (p : Partners) (a b : ℕ) → p a ≡ Some b → improve before t g a p ≡ p
    improve_taken p a b e = cc

    -- where every load is done, nothing is changed
    pub improve_done : Simple g → (p : Partners) (a : ℕ) → AugmentPhase g t (Outside []) p → improve before t g a p ≡ p
    improve_done s p a k = elim (cases_option (p a)) [
      | inr (b, e) ↦ improve_taken p a b e
      | inl n ↦ elim (cases_option (path_start_of before g p a)) [
        | inl o ↦ let low = le-ltb t (degree g a) (k.light a tt n) in cc
        | inr (x, o) ↦ let (y, z, w) = taken_path before g s p a x o in
            absurd (w.apart (k.no_walk a x y z tt tt n w.link_x w.pair_x w.link_z w.free_z))
      ]
    ]
