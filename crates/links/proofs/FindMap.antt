-- What the iterator's `find_map` gives, where its closure computes a function.
use Rattle.std.proofs.Common.{◌≡◌, ℕ, suc, ◌+◌, ◌<◌, Bool, true, false, cond, List, [], ◌∷◌, map, IfSome, MatchOption, IsTrue, Some, None, Option, sym, refl, ap, ◌∙◌, subst}
use Rattle.std.proofs.lemmas.Iterator.{YieldsList, items_from_drains}
use Rattle.std.specs.Bool.{then_some}
use Rattle.std.specs.Fn.{Called}
use Rattle.std.specs.Iterator.{AlwaysYields, YieldsThen, DrainsIf, FindsMapped}
use Rattle.std.specs.Iterator.Runs.{SomeRun, AllItemsGive, IsFirstToGive, YieldsRun}
use Rattle.std.specs.List.{FoldsTo, filter, find, slice_get}
use Rattle.std.specs.Option.{option_or}
use denote.Param.Members.{Mut}

-- the first answer that there is
abbrev pub find_map : {A B : Type 0} → (A → Option B) → List A → Option B
find_map h [] = None
find_map h (x ∷ xs) = option_or (h x) (find_map h xs)

module _ {S A B C F : Type 0} (steps : S → Option A → S → Type 0) (v : A → B) (g : Mut F (A × Unit {0}) (Option C)) (h : B → Option C) (f : F)
    (computes : (x : A) (o : Option C) (q : F) → Called g f (x, tt) o q → (q ≡ f) × (o ≡ h (v x))) where
  stopped : (xs : List A) (j : F) (s : S) (all : List B) → AlwaysYields steps v s all → (o : Option A) (u : S) → YieldsThen steps s xs o u → (i : F) → i ≡ f → FoldsTo (λ p x q. Called g p (x, tt) None q) i xs j
      → (y : C) → MatchOption o (Some y ≡ None) (λ x. (q : F) × Called g j (x, tt) (Some y) q) → find_map h all ≡ Some y
  stopped [] j s all road None u ran i e calls y stop = cc
  stopped [] j s [] road (Some x) u (t, same, last) i e calls y stop = absurd (road x u (subst (λ (w : S). steps w (Some x) u) (sym same) last))
  stopped [] j s (b ∷ bs) road (Some x) u (t, same, last) i e calls y stop =
      let here = road.1 x u (subst (λ (w : S). steps w (Some x) u) (sym same) last) in
      let answer = (computes x (Some y) stop.0 (subst (λ (q : F). Called g q (x, tt) (Some y) stop.0) (sym calls ∙ e) stop.1)).1 in
      rw (ap h (sym here.0) ∙ sym answer) refl
  stopped (x ∷ xs) j s [] road o u (t, (k, step, more), last) i e calls y stop = absurd (road x k step)
  stopped (x ∷ xs) j s (b ∷ bs) road o u (t, (k, step, more), last) i e calls y stop =
      let next = road.1 x k step in
      let none = computes x None calls.0 (subst (λ (q : F). Called g q (x, tt) None calls.0) e calls.1) in
      rw (ap h (sym next.0) ∙ sym none.1) (stopped xs j k bs next.1 o u (t, more, last) calls.0 none.0 calls.2 y stop)

  all_none : (xs : List A) → ((k : ℕ) → IfSome (slice_get xs k) (λ x. Called g f (x, tt) None f)) → find_map h (map v xs) ≡ None
  all_none [] none = refl
  all_none (x ∷ xs) none = rw (sym (computes x None f (none 0)).1) (all_none xs (λ k. none (suc k)))

  pub find_map_from_yields_List : {s : S} {all : List B} (u : S) (r : Option C) → FindsMapped steps g s f r u
      → SomeRun steps s (λ p. MatchOption r (IsTrue p.whole × AllItemsGive p g f None) (λ y. (i : ℕ) × (i < p.len) × (p.len ≡ i + 1) × IsFirstToGive p g f (Some y) None i))
      → YieldsList steps v s all → r ≡ find_map h all
  unfolding YieldsRun
  find_map_from_yields_List u None ran (p, from, (whole, none)) road =
      let drains = subst (λ (w : S). DrainsIf steps (Unit {0}) w p.items) from (p.gave.0.0, p.gave.0.1, λ _. p.gave.0.2 whole) in
      let off = λ (k : ℕ). subst (λ (o : Option A). IfSome o (λ x. Called g f (x, tt) None f)) (p.gave.1 k) (none (λ x o q called. (computes x.0 o q called).0) k) in
      sym (all_none p.items off) ∙ ap (find_map h) (items_from_drains p.items drains road)
  find_map_from_yields_List {s} {all} u (Some y) ran run road = sym (stopped ran.0 ran.2 s all road.runs ran.1 u ran.3 f refl ran.4 y ran.5)

-- ---- what else finds

pub find_map-filter : {A B : Type 0} (p : A → Bool) (h : A → Option B) (xs : List A) → find_map h (filter p xs) ≡ find_map (λ x. cond (p x) (h x) None) xs
find_map-filter p h [] = refl
find_map-filter p h (x ∷ xs) =
    elim (p x) as (λ b. find_map h (cond b (x ∷ filter p xs) (filter p xs)) ≡ option_or (cond b (h x) None) (find_map (λ y. cond (p y) (h y) None) xs)) [
      | true ↦ ap (option_or (h x)) (find_map-filter p h xs)
      | false ↦ find_map-filter p h xs
    ]

pub find-find_map : {A : Type 0} (p : A → Bool) (xs : List A) → find p xs ≡ find_map (λ x. then_some (p x) x) xs
find-find_map p [] = refl
find-find_map p (x ∷ xs) =
    elim (p x) as (λ b. cond b (Some x) (find p xs) ≡ option_or (then_some b x) (find_map (λ y. then_some (p y) y) xs)) [
      | true ↦ refl
      | false ↦ find-find_map p xs
    ]
