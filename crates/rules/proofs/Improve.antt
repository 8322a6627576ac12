-- The second phase: what augmenting and displacing keep.
use Rattle.std.proofs.Common.{◌≡◌, ℕ, zero, suc, ◌*◌, ◌<◌, ◌≤◌, Bool, true, false, not, ◌&&◌, eqb, ltb, leb, ◌⊎◌, Some, None, Option, sym, refl, ap, ◌∙◌, subst, inl, inr, arith}
use Rattle.std.proofs.lemmas.Bool.{cases_Bool, cases_eq, both_ways, and_parts, and_from, and_cases, or_cases, or_parts, leb-true, leb-false, ltb-true, ltb-false, not-true, ne_eqb, eqb-false, not_from_false}
use Rattle.graph.specs.Graph.{Graph, Simple, degree, link_count}
use Rattle.graph.specs.Matching.{Partners, Matching}
use Rattle.graph.specs.Pairs.{is_free}
use Rattle.graph.specs.Short.{Maximal, NoWalkFrom}
use Rattle.graph.proofs.Partners.{cases_option, none_is}
use Rattle.graph.proofs.Paths.{free_apart, linked_apart}
use Rattle.rules.specs.First.{first}
use Rattle.rules.specs.Repair.{Ranking, paired, freed, paired_found, any_below, free_link, ends_path, begins_path, light_partner, path_start_of, exchanged, augment, light_start_of, displace, improve}
use Rattle.rules.proofs.Displacement.{all_heavy}
use Rattle.rules.proofs.First.{first_found, first_none}
use Rattle.rules.proofs.Phases.{AugmentPhase, but, taken_more, light_more, changed_phase}
use Rattle.rules.proofs.Updates.{paired_other, paired_some, paired_free, paired_matching, forth, back, old, freed_two, freed_other, freed_free, freed_some, freed_matching, exchange_is, displace_is}

any_none : (n : ℕ) (test : ℕ → Bool) → any_below n test ≡ false → (z : ℕ) → z < n → test z ≡ false
any_none zero test e z l = absurd (omega arith)
any_none (suc n) test e z l =
    let (f, h) = or_parts (any_below n test) (test n) e in
    elim (cases_eq z n) [ inl i ↦ cc | inr i ↦ any_none n test f z (omega arith) ]

any_found : (n : ℕ) (test : ℕ → Bool) → any_below n test ≡ true → (z : ℕ) × (z < n) × (test z ≡ true)
any_found zero test e = absurd (both_ways false refl e)
any_found (suc n) test e = elim (or_cases (any_below n test) (test n) e)
    [ inl f ↦ let (z, l, h) = any_found n test f in (z, omega arith, h) | inr h ↦ (n, omega arith, h) ]

-- ---- paths of three links

module _ (g : Graph) where
  ends_are : (p : Partners) (a : ℕ) (o : Option ℕ) (z : ℕ) → ends_path g p a o z ≡ true →
      (y : ℕ) × (o ≡ Some y) × (g.linked y z ≡ true) × (p z ≡ None) × (z ≡ a → ⊥)
  ends_are p a None z e = absurd (both_ways false refl e)
  ends_are p a (Some y) z e =
      let (r, d) = and_parts (free_link g p y z) (not (eqb z a)) e in
      let (l, f) = and_parts (g.linked y z) (is_free p z) r in
      (y, refl, l, none_is (p z) f, eqb-false z a (not-true (eqb z a) d))

  ends_from : (p : Partners) (a y z : ℕ) → g.linked y z ≡ true → p z ≡ None → (z ≡ a → ⊥) → ends_path g p a (Some y) z ≡ true
  ends_from p a y z l n d = and_from (free_link g p y z) (not (eqb z a))
      (and_from (g.linked y z) (is_free p z) l (cc)) (not_from_false (eqb z a) (ne_eqb z a d))

module _ (before : Ranking) (g : Graph) (s : Simple g) where
  no_start : (p : Partners) (a : ℕ) → path_start_of before g p a ≡ None → NoWalkFrom g p a
  no_start p a o x y z l e m n = elim (cases_eq z a) [
    | inl i ↦ i
    | inr i ↦ absurd (
        let lost = first_none (before a) g.size (begins_path g p a) o x (s.below x a (s.symmetric x a ∙ l)) in
        elim (and_cases (g.linked a x) (any_below g.size (ends_path g p a (p x))) lost) [
          | inl h ↦ both_ways (g.linked a x) h l
          | inr h ↦
              let gone = any_none g.size (ends_path g p a (p x)) h z (s.below z y (s.symmetric z y ∙ m)) in
              both_ways (ends_path g p a (Some y) z) (rw e at gone) (ends_from g p a y z m n i)
        ])
  ]

  -- the path that is taken, and the partners then
  pub record Taken (p : Partners) (a x y z : ℕ) : Type 0 where
    pub link_x : g.linked a x ≡ true
    pub pair_x : p x ≡ Some y
    pub link_z : g.linked y z ≡ true
    pub free_z : p z ≡ None
    pub apart : z ≡ a → ⊥
    pub result : exchanged before g p a x (p x) ≡ paired y z (paired a x p)

  pub taken_path : (p : Partners) (a x : ℕ) → path_start_of before g p a ≡ Some x → (y z : ℕ) × Taken p a x y z
  taken_path p a x o =
      let f = first_found (before a) g.size (begins_path g p a) x o in
      let (l, h) = and_parts (g.linked a x) (any_below g.size (ends_path g p a (p x))) f.passes in
      let (z₀, _, h₀) = any_found g.size (ends_path g p a (p x)) h in
      let (y, e, l₀, n₀, d₀) = ends_are g p a (p x) z₀ h₀ in
      elim (cases_option (first (before y) g.size (ends_path g p a (Some y)))) [
        | inl w ↦ absurd (
            let lost = first_none (before y) g.size (ends_path g p a (Some y)) w z₀ (s.below z₀ y (s.symmetric z₀ y ∙ l₀)) in
            both_ways (ends_path g p a (Some y) z₀) lost (ends_from g p a y z₀ l₀ n₀ d₀))
        | inr (z, w) ↦
            let f = first_found (before y) g.size (ends_path g p a (Some y)) z w in
            let (y', e', l', n', d') = ends_are g p a (Some y) z f.passes in
            let same : y ≡ y' = cc in (
              y,
              z,
              record {
                link_x = l;
                pair_x = e;
                link_z = cc;
                free_z = n';
                apart = d';
                result = ap (exchanged before g p a x) e ∙ ap (λ v. paired_found y v (paired a x p)) w;
              },
            )
      ]

-- ---- augmenting

module _ (g : Graph) (s : Simple g) (t : ℕ) (D : ℕ → Type 0) (p : Partners) (a x y : ℕ) (k : AugmentPhase g t (but a D) p)
    (free-a : p a ≡ None) (link_x : g.linked a x ≡ true) (pair_x : p x ≡ Some y) where
  pair_y : p y ≡ Some x
  pair_y = k.matching.returned x y pair_x

  a≢x : a ≡ x → ⊥
  a≢x = linked_apart g s a x link_x

  a≢y : a ≡ y → ⊥
  a≢y = free_apart p a y x free-a pair_y

  x≢y : x ≡ y → ⊥
  x≢y = linked_apart g s x y (k.matching.linked x y pair_x)

  -- x taken from y and paired with a
  abbrev taken : Partners
  taken = paired a x (freed x (freed y p))

  taken_matching : Matching g taken
  taken_matching = paired_matching g s (freed x (freed y p)) (freed_matching g p k.matching x y pair_x) a x
      (freed_other x y p a a≢x a≢y ∙ free-a) (freed_two x y p x (inl refl)) link_x

  taken_free : (u : ℕ) → taken u ≡ None → (u ≡ a → ⊥) × ((u ≡ y) ⊎ (p u ≡ None))
  taken_free u e =
      let (not_a, not-x, e') = paired_free a x (freed x (freed y p)) a≢x u e in
      (not_a, elim (freed_free x y p u e') [ inl i ↦ absurd (not-x i) | inr h ↦ h ])

  taken_pair : (v w : ℕ) → taken v ≡ Some w → (p v ≡ Some w) ⊎ ((p v ≡ None) ⊎ (p w ≡ None))
  taken_pair v w e = elim (paired_some a x (freed x (freed y p)) a≢x v w e)
      [ forth i j ↦ inr (inl (cc)) | back i j ↦ inr (inr (cc)) | old i j o ↦ inl (freed_some g p k.matching x y pair_x v w o).was ]

  taken_y : taken y ≡ None
  taken_y = paired_other a x (freed x (freed y p)) y (λ e. a≢y (sym e)) (λ e. x≢y (sym e)) ∙ freed_two x y p y (inr refl)

  module _ (z : ℕ) (link_z : g.linked y z ≡ true) (free_z : p z ≡ None) (apart : z ≡ a → ⊥) where
    y≢z : y ≡ z → ⊥
    y≢z = linked_apart g s y z link_z

    taken_z : taken z ≡ None
    taken_z =
        let z≢x = free_apart p z x y free_z pair_x in
        let z≢y = free_apart p z y x free_z pair_y in
        paired_other a x (freed x (freed y p)) z apart z≢x ∙ (freed_other x y p z z≢x z≢y ∙ free_z)

    augmented_free : (u : ℕ) → paired y z taken u ≡ None → (u ≡ a → ⊥) × (p u ≡ None)
    augmented_free u e =
        let (not-y, _, e') = paired_free y z taken y≢z u e in
        let (not_a, h) = taken_free u e' in
        (not_a, elim h [ inl i ↦ absurd (not-y i) | inr n ↦ n ])

    pub augmented_more : AugmentPhase g t D (paired y z (paired a x p))
    augmented_more = subst (AugmentPhase g t D) (sym (exchange_is a x y z p))
        (changed_phase g t D (but a D) p (paired y z taken) k
        (paired_matching g s taken taken_matching y z taken_y taken_z link_z)
        (λ u v e f l. k.maximal u v (augmented_free u e).1 (augmented_free v f).1 l)
        (λ u d e. let (not_a, n) = augmented_free u e in ((not_a, d), n))
        (λ v w e. elim (paired_some y z taken y≢z v w e)
        [ forth i j ↦ inr (inr (cc)) | back i j ↦ inr (inl (cc)) | old i j o ↦ taken_pair v w o ]))

  -- ---- displacing

  module _ (none : NoWalkFrom g p a) where
    -- y is linked to no other load that is free
    y_unlinked : (v : ℕ) → (v ≡ a → ⊥) → p v ≡ None → g.linked y v ≡ true → ⊥
    y_unlinked v not_a n l = not_a (none x y v link_x pair_x l n)

    taken_maximal : Maximal g taken
    taken_maximal u v e f l =
        let (u≢a, h) = taken_free u e in let (v≢a, h') = taken_free v f in
        elim h [
          | inl i ↦ elim h' [ inl j ↦ linked_apart g s u v l (i ∙ sym j) | inr n ↦ y_unlinked v v≢a n (rw i at l) ]
          | inr m ↦ elim h' [ inl j ↦ y_unlinked u u≢a m (cc (s.symmetric u v)) | inr n ↦ k.maximal u v m n l ]
        ]

    displaced_phase : AugmentPhase g t (but y D) taken
    displaced_phase = changed_phase g t (but y D) (but a D) p taken k taken_matching taken_maximal
        (λ u (u≢y, d) e. let (u≢a, h) = taken_free u e in ((u≢a, d), elim h [ inl i ↦ absurd (u≢y i) | inr n ↦ n ]))
        taken_pair

    pub freed_phase : AugmentPhase g t (but y D) (freed y (paired a x p))
    freed_phase = subst (AugmentPhase g t (but y D)) (sym (displace_is a x y p a≢y x≢y)) displaced_phase

    pub freed_y : freed y (paired a x p) y ≡ None
    freed_y = ap (λ (q : Partners). q y) (displace_is a x y p a≢y x≢y) ∙ taken_y

-- ---- one load of the second phase

module _ (before : Ranking) (g : Graph) (s : Simple g) (t : ℕ) where
  exchanged_more : (D : ℕ → Type 0) (p : Partners) (a x : ℕ) → AugmentPhase g t (but a D) p → p a ≡ None → path_start_of before g p a ≡ Some x →
      AugmentPhase g t D (exchanged before g p a x (p x))
  exchanged_more D p a x k n o =
      let (y, z, w) = taken_path before g s p a x o in
      subst (AugmentPhase g t D) (sym w.result) (augmented_more g s t D p a x y k n w.link_x w.pair_x z w.link_z w.free_z w.apart)

  augment_more : (D : ℕ → Type 0) (p : Partners) (a : ℕ) → AugmentPhase g t (but a D) p → p a ≡ None → degree g a ≤ t →
      AugmentPhase g t D (augment before g a p)
  augment_more D p a k n small = elim (cases_option (path_start_of before g p a)) [
    | inl o ↦ let same : augment before g a p ≡ p = cc in
        subst (AugmentPhase g t D) (sym same) (light_more g s t D p a k (no_start before g s p a o) small)
    | inr (x, o) ↦ let same : augment before g a p ≡ exchanged before g p a x (p x) = cc in
        subst (AugmentPhase g t D) (sym same) (exchanged_more D p a x k n o)
  ]

  light_is : (o : Option ℕ) → light_partner g t o ≡ true → (y : ℕ) × (o ≡ Some y) × (degree g y ≤ t)
  light_is None e = absurd (both_ways false refl e)
  light_is (Some y) e = (y, refl, leb-true (degree g y) t e)

  module _ (few : 2 * link_count g ≤ t * t) where
    displace_more : (D : ℕ → Type 0) (p : Partners) (a : ℕ) → AugmentPhase g t (but a D) p → p a ≡ None → NoWalkFrom g p a →
        AugmentPhase g t D (displace before t g a p)
    displace_more D p a k n none = elim (cases_Bool (ltb t (degree g a))) [
      | inr e ↦ let same : displace before t g a p ≡ p = cc in
          subst (AugmentPhase g t D) (sym same) (light_more g s t D p a k none (ltb-false t (degree g a) e))
      | inl e ↦ elim (cases_option (light_start_of before t g p a)) [
        | inl o ↦ absurd (all_heavy g s t few p k.matching a (ltb-true t (degree g a) e) (λ x l.
            elim (cases_option (p x)) [
              | inl m ↦ absurd (k.maximal a x n m l)
              | inr (y, m) ↦
                  let lost = first_none (before a) g.size (λ x. g.linked a x && light_partner g t (p x)) o x (s.below x a (s.symmetric x a ∙ l)) in
                  let heavy : leb (degree g y) t ≡ false = cc in
                  (y, m, leb-false (degree g y) t heavy)
            ]))
        | inr (x, o) ↦
            let f = first_found (before a) g.size (λ x. g.linked a x && light_partner g t (p x)) x o in
            let (l, h) = and_parts (g.linked a x) (light_partner g t (p x)) f.passes in
            let (y, m, d) = light_is (p x) h in
            let q : Partners = freed y (paired a x p) in
            let same : displace before t g a p ≡ augment before g y q = cc in
            subst (AugmentPhase g t D) (sym same)
            (augment_more D q y (freed_phase g s t D p a x y k n l m none) (freed_y g s t D p a x y k n l m none) d)
      ]
    ]

    pub improve_more : (D : ℕ → Type 0) (p : Partners) (a : ℕ) → AugmentPhase g t (but a D) p → AugmentPhase g t D (improve before t g a p)
    improve_more D p a k = elim (cases_option (p a)) [
      | inr (b, e) ↦ let same : improve before t g a p ≡ p = cc in subst (AugmentPhase g t D) (sym same) (taken_more g t D p a b k e)
      | inl n ↦ elim (cases_option (path_start_of before g p a)) [
        | inl o ↦ let same : improve before t g a p ≡ displace before t g a p = cc in
            subst (AugmentPhase g t D) (sym same) (displace_more D p a k n (no_start before g s p a o))
        | inr (x, o) ↦ let same : improve before t g a p ≡ exchanged before g p a x (p x) = cc in
            subst (AugmentPhase g t D) (sym same) (exchanged_more D p a x k n o)
      ]
    ]
