-- How many partners a call changes.
use Rattle.std.proofs.Common.{◌≡◌, ℕ, ◌*◌, ◌<◌, ◌≤◌, true, false, cond, eqb, ltb, ◌⊎◌, List, [], ◌∷◌, ◌++◌, length, Some, None, Option, sym, refl, ap, ◌∙◌, subst, inl, inr, arith, length-append}
use Rattle.std.proofs.lemmas.Bool.{cases_eq}
use Rattle.graph.specs.Graph.{Graph, Simple, link_count, added, removed}
use Rattle.graph.specs.Matching.{Partners, Free}
use Rattle.graph.proofs.Changes.{added_simple, added_on, added_left, added_right, removed_simple}
use Rattle.graph.proofs.Partners.{cases_option}
use Rattle.graph.proofs.Paths.{free_apart, linked_apart}
use Rattle.std.specs.Option.{option_to_list}
use Rattle.rules.specs.Calls.{in_order, parted, parted_from}
use Rattle.rules.specs.Health.{Healthy}
use Rattle.rules.specs.Repair.{Ranking, paired, freed, match_free, improve, repair}
use Rattle.rules.proofs.Changes.{Alike, AtMost, Besides, paired_alike, improve_few, improve_taken, improve_done}
use Rattle.rules.proofs.Fewer.{unlink_phase}
use Rattle.rules.proofs.Improve.{improve_more}
use Rattle.rules.proofs.Linking.{added_phase}
use Rattle.rules.proofs.MatchFree.{match_cases}
use Rattle.rules.proofs.Phases.{MatchPhase, AugmentPhase, taken_more, fewer_done}
use Rattle.rules.proofs.Repair.{Outside, healthy_done, matched_phase, match_all}
use Rattle.rules.proofs.Updates.{paired_left, paired_right, paired_other, freed_other}

outside_append : (l m : List ℕ) (u : ℕ) → Outside (l ++ m) u → Outside l u × Outside m u
outside_append [] m u o = (tt, o)
outside_append (a ∷ l) m u (i, o) = let (j, k) = outside_append l m u o in ((i, j), k)

-- ---- the repair of one load

module _ (before : Ranking) (t : ℕ) (g : Graph) (s : Simple g) where
  abbrev matched : ℕ → Partners → Partners
  matched a p = match_free before g a p

  abbrev improved_at : ℕ → Partners → Partners
  improved_at a p = improve before t g a p

  match_taken : (p : Partners) (a b : ℕ) → p a ≡ Some b → matched a p ≡ p
  match_taken p a b e = cc

  -- who has a partner keeps it
  match_keeps : (p : Partners) (a c d : ℕ) → p c ≡ Some d → matched a p c ≡ Some d
  match_keeps p a c d e = elim (match_cases before g s p a) [
    | inl (same, _) ↦ cc
    | inr (b, free-a, free-b, _, same) ↦
        ap (λ (r : Partners). r c) same ∙ (paired_other a b p c (λ i. free_apart p a c d free-a e (sym i)) (λ i. free_apart p b c d free-b e (sym i)) ∙ e)
  ]

  -- nothing changes, or two partners do, and then a has one
  match_few : (p : Partners) (a : ℕ) → (matched a p ≡ p) ⊎ ((b : ℕ) × (matched a p a ≡ Some b) × Alike (a ∷ b ∷ []) p (matched a p))
  match_few p a = elim (match_cases before g s p a) [
    | inl (same, _) ↦ inl same
    | inr (b, _, _, _, same) ↦ inr (b, ap (λ (r : Partners). r a) same ∙ paired_left a b p, subst (Alike (a ∷ b ∷ []) p) (sym same) (paired_alike a b p))
  ]

  one_few : (p : Partners) (a : ℕ) → Besides a 5 p (improved_at a (matched a p))
  one_few p a = elim (match_few p a) [
    | inl same ↦ subst (λ q. Besides a 5 p (improved_at a q)) (sym same) (improve_few before g t p a)
    | inr (b, e, h) ↦ subst (Besides a 5 p) (sym (improve_taken before g t (matched a p) a b e)) (b ∷ [], omega arith, h)
  ]

  -- ---- the repair of two loads

  module _ (few : 2 * link_count g ≤ t * t) (p : Partners) (c d : ℕ) (k : MatchPhase g t (Outside (c ∷ d ∷ [])) (Outside (c ∷ d ∷ [])) p) where
    abbrev both_matched : Partners
    both_matched = matched d (matched c p)

    after_matching : AugmentPhase g t (Outside (c ∷ d ∷ [])) both_matched
    after_matching = matched_phase g t (Outside (c ∷ d ∷ [])) both_matched (match_all before g s t (c ∷ d ∷ []) (Outside (c ∷ d ∷ [])) p k)

    -- with d taken, c is the only load to improve
    d_taken : (b : ℕ) → both_matched d ≡ Some b → improved_at d (improved_at c both_matched) ≡ improved_at c both_matched
    d_taken b e = improve_done before g t s (improved_at c both_matched) d (improve_more before g s t few (Outside []) both_matched c
        (taken_more g t (Outside (c ∷ [])) both_matched d b
        (fewer_done g t (Outside (c ∷ d ∷ [])) (Outside (d ∷ c ∷ [])) both_matched (λ u (i, (j, _)). (j, (i, tt))) after_matching) e))

    two_few : (l m : List ℕ) × (length l ≤ 5) × (length m ≤ 5) × Alike ((c ∷ l) ++ (d ∷ m)) p (improved_at d (improved_at c both_matched))
    two_few = elim (match_few p c) [
      | inr (b, e, h) ↦
          let still : improved_at c both_matched ≡ both_matched = improve_taken before g t both_matched c b (match_keeps (matched c p) d c b e) in
          let (m, few-m, h') = one_few (matched c p) d in (
            b ∷ [],
            m,
            omega arith,
            few-m,
            λ w o. let (i, j) = outside_append (c ∷ b ∷ []) (d ∷ m) w o in
                ap (λ r. improved_at d r w) still ∙ (h' w j ∙ h w i),
          )
      | inl same-c ↦ elim (match_few (matched c p) d) [
        | inl same-d ↦
            let e : both_matched ≡ p = same-d ∙ same-c in
            let (l, few-l, h) = improve_few before g t p c in
            let (m, few-m, h') = improve_few before g t (improved_at c p) d in
            (l, m, few-l, few-m, λ w o. let (i, j) = outside_append (c ∷ l) (d ∷ m) w o in ap (λ r. improved_at d (improved_at c r) w) e ∙ (h' w j ∙ h w i))
        | inr (b, e, h) ↦
            let (l, few-l, h') = improve_few before g t both_matched c in (
              l,
              b ∷ [],
              few-l,
              omega arith,
              λ w o. let (i, j) = outside_append (c ∷ l) (d ∷ b ∷ []) w o in
                  ap (λ (r : Partners). r w) (d_taken b e) ∙ (h' w i ∙ (h w j ∙ ap (λ (r : Partners). r w) same-c)),
            )
      ]
    ]

    -- the two loads are linked, and neither to another free load, unless it has a partner
    module _ (link : g.linked c d ≡ true)
        (only-d : (v : ℕ) → Free p c → Free p v → g.linked c v ≡ true → v ≡ d)
        (only-c : (v : ℕ) → Free p d → Free p v → g.linked d v ≡ true → v ≡ c) where
      -- both were free: they are partners now, and nothing is left to do
      linked_free : Free p c → Free p d → AtMost 6 p (improved_at d (improved_at c both_matched))
      linked_free free-c free_d = elim (match_cases before g s p c) [
        | inl (_, none) ↦ absurd (none d free-c free_d link)
        | inr (b, _, free-b, link-b, same) ↦
            let apart = linked_apart g s c d link in
            let b≡d = only-d b free-c free-b link-b in
            let q = paired c d p in
            let at_c : q c ≡ Some d = paired_left c d p in
            let at-d : q d ≡ Some c = paired_right c d p apart in
            let is-q : both_matched ≡ q = ap (matched d) (same ∙ ap (λ (v : ℕ). paired c v p) b≡d) ∙ match_taken q d c at-d in
            let done = taken_more g t (Outside []) q d c (taken_more g t (Outside (d ∷ [])) q c d (subst (AugmentPhase g t (Outside (c ∷ d ∷ []))) is-q after_matching) at_c) at-d in
            let end : improved_at d (improved_at c both_matched) ≡ q =
            ap (λ r. improved_at d (improved_at c r)) is-q ∙ (ap (improved_at d) (improve_done before g t s q c done) ∙ improve_done before g t s q d done) in
            (c ∷ d ∷ [], omega arith, subst (Alike (c ∷ d ∷ []) p) (sym end) (paired_alike c d p))
      ]

      -- one has a partner: it stays as it is until the other is improved
      match_c : (x : ℕ) → p d ≡ Some x → matched c p ≡ p
      match_c x e = elim (match_cases before g s p c) [
        | inl (same, _) ↦ same
        | inr (b, free-c, free-b, link-b, _) ↦ absurd (free_apart p b d x free-b e (only-d b free-c free-b link-b))
      ]

      match_d : (x : ℕ) → p c ≡ Some x → matched d p ≡ p
      match_d x e = elim (match_cases before g s p d) [
        | inl (same, _) ↦ same
        | inr (b, free_d, free-b, link-b, _) ↦ absurd (free_apart p b c x free-b e (only-c b free_d free-b link-b))
      ]

      pub linked_few : AtMost 6 p (improved_at d (improved_at c both_matched))
      linked_few = elim (cases_option (p c)) [
        | inr (x, e) ↦
            let is-p : both_matched ≡ p = ap (matched d) (match_taken p c x e) ∙ match_d x e in
            let end : improved_at d (improved_at c both_matched) ≡ improved_at d p =
            ap (λ r. improved_at d (improved_at c r)) is-p ∙ ap (improved_at d) (improve_taken before g t p c x e) in
            let (l, few-l, h) = improve_few before g t p d in
            (d ∷ l, omega arith, subst (Alike (d ∷ l) p) (sym end) h)
        | inl free-c ↦ elim (cases_option (p d)) [
          | inl free_d ↦ linked_free free-c free_d
          | inr (x, e) ↦
              let is-p : both_matched ≡ p = ap (matched d) (match_c x e) ∙ match_taken p d x e in
              let end : improved_at d (improved_at c both_matched) ≡ improved_at c p =
              d_taken x (ap (λ (r : Partners). r d) is-p ∙ e) ∙ ap (improved_at c) is-p in
              let (l, few-l, h) = improve_few before g t p c in
              (c ∷ l, omega arith, subst (Alike (c ∷ l) p) (sym end) h)
        ]
      ]

-- ---- the calls

pub link_six : (before : Ranking) (g : Graph) (t a b : ℕ) (p : Partners) → Simple g → (a ≡ b → ⊥) → a < g.size → b < g.size →
    2 * link_count (added g a b) ≤ t * t → Healthy g t p → AtMost 6 p (repair before t (added g a b) (in_order a b) p)
link_six before g t a b p s apart i j few healthy =
    let h = added g a b in
    let r = added_simple g a b s apart i j in
    let k = healthy_done g s t p healthy in
    let only-b : (v : ℕ) → Free p a → Free p v → h.linked a v ≡ true → v ≡ b = λ v n m l. elim (cases_eq v b)
    [ inl e ↦ e | inr e ↦ absurd (k.maximal a v n m (sym (added_left g a b v e apart) ∙ l)) ] in
    let only-a : (v : ℕ) → Free p b → Free p v → h.linked b v ≡ true → v ≡ a = λ v n m l. elim (cases_eq v a)
    [ inl e ↦ e | inr e ↦ absurd (k.maximal b v n m (sym (added_right g a b v e apart) ∙ l)) ] in
    let link = added_on g a b in
    elim (ltb a b) as (λ v. AtMost 6 p (repair before t h (cond v (a ∷ b ∷ []) (b ∷ a ∷ [])) p)) [
      | true ↦ linked_few before t h r few p a b (added_phase g t a b p k (a ∷ b ∷ []) (λ u o. (o.0, o.1.0))) link only-b only-a
      | false ↦ linked_few before t h r few p b a (added_phase g t a b p k (b ∷ a ∷ []) (λ u o. (o.1.0, o.0))) (r.symmetric b a ∙ link) only-a only-b
    ]

freed_alike : (a b : ℕ) (p : Partners) → Alike (a ∷ b ∷ []) p (freed a (freed b p))
freed_alike a b p w (i, (j, _)) = freed_other a b p w i j

parted_alike : (a b : ℕ) (p : Partners) (o : Option ℕ) → Alike (a ∷ b ∷ []) p (parted a b p o)
parted_alike a b p None w _ = refl
parted_alike a b p (Some x) w h = elim (eqb x b) as (λ v. cond v (freed a (freed b p)) p w ≡ p w) [ true ↦ freed_alike a b p w h | false ↦ refl ]

-- what parts the two loads changes no others than their repair
twelve : (p q r : Partners) (c d : ℕ) → Alike (c ∷ d ∷ []) p q →
    (l m : List ℕ) × (length l ≤ 5) × (length m ≤ 5) × Alike ((c ∷ l) ++ (d ∷ m)) q r → AtMost 12 p r
twelve p q r c d h (l, m, few-l, few-m, k) = (
  (c ∷ l) ++ (d ∷ m),
  omega (arith, length-append (c ∷ l) (d ∷ m)),
  λ w o. let (i, j) = outside_append (c ∷ l) (d ∷ m) w o in k w o ∙ h w (i.0, (j.0, tt)),
)

pub unlink_twelve : (before : Ranking) (g : Graph) (t a b : ℕ) (p : Partners) → Simple g → 2 * link_count (removed g a b) ≤ t * t →
    Healthy g t p → AtMost 12 p (repair before t (removed g a b) (in_order a b) (parted a b p (p a)))
unlink_twelve before g t a b p s few healthy =
    let h = removed g a b in let q = parted a b p (p a) in
    let r = removed_simple g a b s in
    let k = healthy_done g s t p healthy in
    let same = parted_alike a b p (p a) in
    let either : (u : ℕ) → ((u ≡ a → ⊥) → (u ≡ b → ⊥) → ⊥) → (u ≡ a) ⊎ (u ≡ b) = λ u o.
    elim (cases_eq u a) [ inl i ↦ inl i | inr i ↦ elim (cases_eq u b) [ inl j ↦ inr j | inr j ↦ absurd (o i j) ] ] in
    elim (ltb a b) as (λ v. AtMost 12 p (repair before t h (cond v (a ∷ b ∷ []) (b ∷ a ∷ [])) q)) [
      | true ↦ twelve p q (repair before t h (a ∷ b ∷ []) q) a b same (two_few before t h r few q a b
          (unlink_phase g t a b p s k (a ∷ b ∷ []) (λ u o. (o.0, o.1.0)) (λ u o. either u (λ i j. o (i, (j, tt))))))
      | false ↦ twelve p q (repair before t h (b ∷ a ∷ []) q) b a (λ w (i, (j, _)). same w (j, (i, tt))) (two_few before t h r few q b a
          (unlink_phase g t a b p s k (b ∷ a ∷ []) (λ u o. (o.1.0, o.0)) (λ u o. either u (λ i j. o (j, (i, tt))))))
    ]

pub withdraw_seven : (before : Ranking) (t : ℕ) (g : Graph) → Simple g → (a : ℕ) (p : Partners) (o : Option ℕ) →
    AtMost 7 p (repair before t g (option_to_list o) (parted_from a p o))
withdraw_seven before t g s a p None = ([], omega arith, λ w _. refl)
withdraw_seven before t g s a p (Some b) =
    let (l, few, h) = one_few before t g s (freed a (freed b p)) b in
    (a ∷ b ∷ l, omega arith, λ w (i, (j, k)). h w (j, k) ∙ freed_alike a b p w (i, (j, tt)))

pub depart_two : (a : ℕ) (p : Partners) (o : Option ℕ) → AtMost 2 p (parted_from a p o)
depart_two a p None = ([], omega arith, λ w _. refl)
depart_two a p (Some b) = (a ∷ b ∷ [], omega arith, freed_alike a b p)
