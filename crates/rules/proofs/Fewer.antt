-- Links fewer: what the repair finds after an unlinking, a withdrawal or a departure, and leaves.
use Rattle.std.proofs.Common.{◌≡◌, ℕ, ◌*◌, ◌≤◌, true, eqb, ◌⊎◌, List, [], ◌∷◌, Some, None, Option, sym, refl, ◌∙◌, subst, inl, inr, arith}
use Rattle.std.proofs.lemmas.Bool.{cases_Bool, cases_eq, both_ways, eqb-true, eqb-false}
use Rattle.graph.specs.Graph.{Graph, Simple, count, link_count, removed}
use Rattle.graph.specs.Isolated.{isolated}
use Rattle.graph.specs.Matching.{Partners, Matching}
use Rattle.graph.proofs.Changes.{removed_simple, removed_old, removed_off, removed_kept, isolated_simple, isolated_kept, isolated_old}
use Rattle.graph.proofs.Counts.{count_none}
use Rattle.graph.proofs.Injections.{count_below}
use Rattle.graph.proofs.Partners.{cases_option}
use Rattle.graph.proofs.Paths.{free_taken, linked_apart}
use Rattle.std.specs.Option.{option_to_list}
use Rattle.rules.specs.Calls.{in_order, parted, parted_from, isolated_two}
use Rattle.rules.specs.Health.{Healthy}
use Rattle.rules.specs.Repair.{Ranking, freed, repair}
use Rattle.rules.proofs.Linking.{in_order_outside, in_order_inside}
use Rattle.rules.proofs.Phases.{MatchPhase, AugmentPhase}
use Rattle.rules.proofs.Repair.{Outside, cases_outside, all_done, healthy_done, matched_phase, repair_healthy}
use Rattle.rules.proofs.Updates.{freed_other, freed_some}

-- h and q have links and pairs of g and p only, the loads of D that are free now and linked were free, and no two of the others are linked
pub record Fewer (g h : Graph) (D : ℕ → Type 0) (p q : Partners) : Type 0 where
  pub size : h.size ≡ g.size
  pub links : (u v : ℕ) → h.linked u v ≡ true → g.linked u v ≡ true
  pub matching : Matching h q
  pub pairs : (u v : ℕ) → q u ≡ Some v → p u ≡ Some v
  pub was_free : (u v : ℕ) → D u → q u ≡ None → h.linked u v ≡ true → p u ≡ None
  pub unlinked : (u v : ℕ) → (D u → ⊥) → (D v → ⊥) → h.linked u v ≡ true → ⊥

pub fewer_phase : (g h : Graph) (t : ℕ) (D : ℕ → Type 0) (p q : Partners) → ((u : ℕ) → D u ⊎ (D u → ⊥)) → Simple h →
    Fewer g h D p q → AugmentPhase g t (Outside []) p → MatchPhase h t D D q
fewer_phase g h t D p q decide s f k =
    let apart : (u v : ℕ) → D u → D v → q u ≡ None → q v ≡ None → h.linked u v ≡ true → ⊥ = λ u v i j n₁ n₂ e.
    k.maximal u v (f.was_free u v i n₁ e) (f.was_free v u j n₂ (s.symmetric v u ∙ e)) (f.links u v e) in
    record {
      matching = f.matching;
      maximal = apart;
      no_free_walk = λ u v w e i j n₁ l₁ n₂ l₂ n₃ l₃ n₄. absurd (elim (decide v) [
        | inl d ↦ apart u v i d n₁ n₂ l₁
        | inr d ↦ elim (decide w) [ inl d' ↦ apart w e d' j n₃ n₄ l₃ | inr d' ↦ f.unlinked v w d d' l₂ ]
      ]);
      no_walk = λ u v w e i j n₁ l₁ m l₂ n₂.
          k.no_walk u v w e tt tt (f.was_free u v i n₁ l₁) (f.links u v l₁) (f.pairs v w m) (f.links w e l₂) (f.was_free e w j n₂ (s.symmetric e w ∙ l₂));
      light = λ u i n. elim (cases_option (p u)) [
        | inl e ↦
            let fewer = count_below h.size (h.linked u) (g.linked u) (λ v _. f.links u v) in
            let small : count h.size (g.linked u) ≤ t = rw f.size (k.light u tt e) in omega arith
        | inr (b, e) ↦
            let none = count_none h.size (h.linked u) (λ v _. elim (cases_Bool (h.linked u v))
            [ inl on ↦ absurd (free_taken (p u) b (f.was_free u v i n on) e) | inr off ↦ off ]) in omega arith
      ];
    }

-- ---- unlinking

parted_kept : (g : Graph) (a b : ℕ) (p : Partners) → Matching g p → (p a ≡ Some b → ⊥) → Matching (removed g a b) p
parted_kept g a b p m h = record {
  returned = m.returned;
  linked = λ u v e. removed_kept g a b u v (λ i j. h (cc)) (λ i j. h (cc (m.returned u v e))) (m.linked u v e);
}

parted_freed : (g : Graph) (a b : ℕ) (p : Partners) → Matching g p → p a ≡ Some b → Matching (removed g a b) (freed a (freed b p))
parted_freed g a b p m h =
    let others = freed_some g p m a b h in
    record {
      returned = λ u v e. (others u v e).home;
      linked = λ u v e. let r = others u v e in removed_kept g a b u v (λ w _. r.v_not_a w) (λ w _. r.v_not_b w) (m.linked u v r.was);
    }

-- a and b parted, if they were partners
pub record Parted (g : Graph) (a b : ℕ) (p q : Partners) : Type 0 where
  pub matching : Matching (removed g a b) q
  pairs : (u v : ℕ) → q u ≡ Some v → p u ≡ Some v
  was_free : (u : ℕ) → (u ≡ a → ⊥) → (u ≡ b → ⊥) → q u ≡ None → p u ≡ None

pub parted_is : (g : Graph) (a b : ℕ) (p : Partners) → Matching g p → Parted g a b p (parted a b p (p a))
parted_is g a b p m =
    let as_it_was : (p a ≡ Some b → ⊥) → Parted g a b p p = λ h.
    record { matching = parted_kept g a b p m h; pairs = λ u v e. e; was_free = λ u i j n. n } in
    elim (cases_option (p a)) [
      | inl n ↦ let same : parted a b p (p a) ≡ p = cc in subst (Parted g a b p) (sym same) (as_it_was (free_taken (p a) b n))
      | inr (x, e) ↦ elim (cases_Bool (eqb x b)) [
        | inl i ↦
            let same : parted a b p (p a) ≡ freed a (freed b p) = cc in
            let pair : p a ≡ Some b = cc (eqb-true x b i) in
            subst (Parted g a b p) (sym same) (record {
              matching = parted_freed g a b p m pair;
              pairs = λ u v e. (freed_some g p m a b pair u v e).was;
              was_free = λ u i j n. sym (freed_other a b p u i j) ∙ n;
            })
        | inr i ↦ let same : parted a b p (p a) ≡ p = cc in subst (Parted g a b p) (sym same) (as_it_was (λ h. eqb-false x b i (cc)))
      ]
    ]

pub unlink_phase : (g : Graph) (t a b : ℕ) (p : Partners) → Simple g → AugmentPhase g t (Outside []) p → (l : List ℕ) →
    ((u : ℕ) → Outside l u → (u ≡ a → ⊥) × (u ≡ b → ⊥)) → ((u : ℕ) → (Outside l u → ⊥) → (u ≡ a) ⊎ (u ≡ b)) →
    MatchPhase (removed g a b) t (Outside l) (Outside l) (parted a b p (p a))
unlink_phase g t a b p s k l outside inside =
    let h = removed g a b in
    let r = removed_simple g a b s in
    let d = parted_is g a b p k.matching in
    fewer_phase g h t (Outside l) p (parted a b p (p a)) (cases_outside l) r (record {
      size = refl;
      links = removed_old g a b;
      matching = d.matching;
      pairs = d.pairs;
      was_free = λ u v o n _. let (i, j) = outside u o in d.was_free u i j n;
      unlinked = λ u v i j on. elim (inside u i) [
        | inl e ↦ elim (inside v j)
            [ inl f ↦ linked_apart h r u v on (e ∙ sym f) | inr f ↦ both_ways (h.linked u v) (removed_off g a b u v (inl (e, f))) on ]
        | inr e ↦ elim (inside v j)
            [ inl f ↦ both_ways (h.linked u v) (removed_off g a b u v (inr (e, f))) on | inr f ↦ linked_apart h r u v on (e ∙ sym f) ]
      ];
    }) k

pub unlink_healthy : (before : Ranking) (g : Graph) (t a b : ℕ) (p : Partners) → Simple g → 2 * link_count (removed g a b) ≤ t * t →
    Healthy g t p → Healthy (removed g a b) t (repair before t (removed g a b) (in_order a b) (parted a b p (p a)))
unlink_healthy before g t a b p s few k =
    repair_healthy before (removed g a b) (removed_simple g a b s) t few (in_order a b) (parted a b p (p a))
    (unlink_phase g t a b p s (healthy_done g s t p k) (in_order a b) (in_order_outside a b) (in_order_inside a b))

-- ---- withdrawing

pub withdraw_fewer : (g : Graph) → Simple g → (a : ℕ) (p : Partners) → Matching g p → (o : Option ℕ) → p a ≡ o →
    Fewer g (isolated g a) (Outside (option_to_list o)) p (parted_from a p o)
withdraw_fewer g s a p m None n = record {
  size = refl;
  links = λ u v e. (isolated_old g a u v e).1;
  matching = record {
    returned = m.returned;
    linked = λ u v e.
        let home = m.returned u v e in
        isolated_kept g a u v (λ w. free_taken (p a) v n (cc)) (λ w. free_taken (p a) u n (cc)) (m.linked u v e);
  };
  pairs = λ u v e. e;
  was_free = λ u v _ e _. e;
  unlinked = λ u v o _ _. o tt;
}
withdraw_fewer g s a p m (Some b) n =
    let others = freed_some g p m a b n in
    let only : (w : ℕ) → (Outside (b ∷ []) w → ⊥) → w ≡ b = λ w h. elim (cases_eq w b) [ inl e ↦ e | inr e ↦ absurd (h (e, tt)) ] in
    record {
      size = refl;
      links = λ u v e. (isolated_old g a u v e).1;
      matching = record {
        returned = λ u v e. (others u v e).home;
        linked = λ u v e. let r = others u v e in isolated_kept g a u v r.v_not_a r.w_not_a (m.linked u v r.was);
      };
      pairs = λ u v e. (others u v e).was;
      was_free = λ u v o e on. sym (freed_other a b p u (isolated_old g a u v on).0 o.0) ∙ e;
      unlinked = λ u v i j on. linked_apart (isolated g a) (isolated_simple g a s) u v on (only u i ∙ sym (only v j));
    }

pub withdraw_healthy : (before : Ranking) (g : Graph) (t a : ℕ) (p : Partners) → Simple g → 2 * link_count (isolated g a) ≤ t * t →
    Healthy g t p → Healthy (isolated g a) t (repair before t (isolated g a) (option_to_list (p a)) (parted_from a p (p a)))
withdraw_healthy before g t a p s few k =
    let r = isolated_simple g a s in
    repair_healthy before (isolated g a) r t few (option_to_list (p a)) (parted_from a p (p a))
    (fewer_phase g (isolated g a) t (Outside (option_to_list (p a))) p (parted_from a p (p a)) (cases_outside (option_to_list (p a))) r
    (withdraw_fewer g s a p k.matching (p a) refl) (healthy_done g s t p k))

-- ---- departing

pub isolated_two_simple : (g : Graph) (a : ℕ) (o : Option ℕ) → Simple g → Simple (isolated_two g a o)
isolated_two_simple g a None s = isolated_simple g a s
isolated_two_simple g a (Some b) s = isolated_simple (isolated g a) b (isolated_simple g a s)

depart_fewer : (g : Graph) → Simple g → (a : ℕ) (p : Partners) → Matching g p → (o : Option ℕ) → p a ≡ o →
    Fewer g (isolated_two g a o) (Outside []) p (parted_from a p o)
depart_fewer g s a p m None n = withdraw_fewer g s a p m None n
depart_fewer g s a p m (Some b) n =
    let others = freed_some g p m a b n in
    record {
      size = refl;
      links = λ u v e. (isolated_old g a u v (isolated_old (isolated g a) b u v e).1).1;
      matching = record {
        returned = λ u v e. (others u v e).home;
        linked = λ u v e. let r = others u v e in
            isolated_kept (isolated g a) b u v r.v_not_b r.w_not_b (isolated_kept g a u v r.v_not_a r.w_not_a (m.linked u v r.was));
      };
      pairs = λ u v e. (others u v e).was;
      was_free = λ u v o e on. let (i, on') = isolated_old (isolated g a) b u v on in let (j, _) = isolated_old g a u v on' in sym (freed_other a b p u j i) ∙ e;
      unlinked = λ u v o _ _. o tt;
    }

pub depart_healthy : (g : Graph) (t a : ℕ) (p : Partners) → Simple g → Healthy g t p → Healthy (isolated_two g a (p a)) t (parted_from a p (p a))
depart_healthy g t a p s k =
    let h = isolated_two g a (p a) in
    let q = parted_from a p (p a) in
    let r = isolated_two_simple g a (p a) s in
    all_done h r t q (matched_phase h t (Outside []) q
    (fewer_phase g h t (Outside []) p q (cases_outside []) r (depart_fewer g s a p k.matching (p a) refl) (healthy_done g s t p k)))
