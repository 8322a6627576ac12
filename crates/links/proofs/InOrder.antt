-- What the methods of an iterator give on the members of a set that came from its making.
use Rattle.std.proofs.Common.{◌≡◌, ℕ, zero, suc, ◌+◌, ◌-◌, ◌<◌, ◌≤◌, Bool, true, false, cond, ◌&&◌, List, [], ◌∷◌, length, Some, None, Option, sym, refl, ap, ◌∙◌, subst, ⊎_elim, add-zero, add-one, arith}
use Rattle.std.proofs.lemmas.Bool.{cases_eq, cases_lt}
use Rattle.std.proofs.lemmas.Iterator.{YieldsList}
use Rattle.std.proofs.lemmas.Iterator.Adapters.{option_map_id}
use Rattle.std.specs.Option.{option_map}
use Rattle.std.proofs.lemmas.Iterator.Splits.{YieldsList-from_shown_while}
use Rattle.std.specs.List.{filter, find, range_with_len}
use Rattle.graph.specs.Graph.{Graph, Simple, First, Next, NextBelow, count}
use Rattle.links.specs.declared.members.MembersInOrder.{MembersInOrder}
use Rattle.links.specs.declared.members.LinkedTo.{LinkedTo}
use Rattle.links.specs.InOrder.{GivesNext, Over}

-- the numbers from `from` on and below `end` that pass the test
abbrev pub members : (ℕ → Bool) → ℕ → ℕ → List ℕ
members test from end = filter test (range_with_len from (end - from))

-- ---- the first member

none_pass : (test : ℕ → Bool) (from n : ℕ) → ((j : ℕ) → from ≤ j → j < from + n → test j ≡ false) → filter test (range_with_len from n) ≡ []
none_pass test from zero off = refl
none_pass test from (suc n) off = rw (off from (omega arith) (omega arith)) (none_pass test (from + 1) n (λ j l m. off j (omega arith) (omega arith)))

first_passes : (test : ℕ → Bool) (from n x : ℕ) → x < from + n → First test from x → filter test (range_with_len from n) ≡ x ∷ filter test (range_with_len (x + 1) (from + n - (x + 1)))
first_passes test from zero x l first = absurd (omega (arith, first.past))
first_passes test from (suc n) x l first =
    ⊎_elim
    (λ e.
    let here : test from ≡ true = ap test e ∙ first.hit in
    let left : from + suc n - (x + 1) ≡ n = omega arith in
    rw (here, left, e) refl)
    (λ ne.
    let here : test from ≡ false = first.before from (omega arith) (omega (arith, first.past, ne)) in
    let left : from + suc n ≡ from + 1 + n = omega arith in
    rw (here, left)
    (first_passes test (from + 1) n x (omega arith) (record { past = omega (arith, first.past, ne); hit = first.hit; before = λ j m k. first.before j (omega arith) k })))
    (cases_eq from x)

-- ---- the members of a set

pub YieldsList-from_members : {S : Type 0} (reliable : S → Type 0) (member : S → ℕ → Bool) (s : MembersInOrder S) → reliable s.set → YieldsList (GivesNext reliable member) (λ x. x) s (members (member s.set) s.from s.end)
YieldsList-from_members {S} reliable member =
    YieldsList-from_shown_while (GivesNext reliable member) (λ x. x) (λ s. members (member s.set) s.from s.end) (λ s. reliable s.set)
    (λ s t made gives. ap length (none_pass (member s.set) s.from (s.end - s.from) (λ j l m. gives.next made j l (omega arith))))
    (λ s x t made gives.
    let end : s.from + (s.end - s.from) - (x + 1) ≡ s.end - (x + 1) = omega (arith, gives.within) in
    subst (λ (u : MembersInOrder S). reliable u.set × (members (member s.set) s.from s.end ≡ x ∷ members (member u.set) u.from u.end)) (sym gives.after)
    (made, first_passes (member s.set) s.from (s.end - s.from) x (omega (arith, gives.within)) (gives.next made) ∙ ap (λ (n : ℕ). x ∷ filter (member s.set) (range_with_len (x + 1) n)) end))

-- the loads that are linked to a, from `from` on and below `end`
pub YieldsList-from_linked_loads : {L : Type 0} (graph : L → Graph) (made : L → Type 0) (links : L) (a from end : ℕ) (w : MembersInOrder (LinkedTo L)) → Over links a end w → w.from ≡ from → made links
    → YieldsList (GivesNext (λ (s : LinkedTo L). made s.links.now) (λ s. (graph s.links.now).linked s.load)) (λ x. x) w (members ((graph links).linked a) from end)
YieldsList-from_linked_loads {L} graph made links a from end w over begins m =
    let found : made w.set.links.now = subst made (sym over.links_are) m in
    let same : members ((graph w.set.links.now).linked w.set.load) w.from w.end ≡ members ((graph links).linked a) from end = rw (over.links_are, over.load_is, begins, over.end_is) refl in
    subst (YieldsList (GivesNext (λ (s : LinkedTo L). made s.links.now) (λ s. (graph s.links.now).linked s.load)) (λ x. x) w) same
    (YieldsList-from_members (λ (s : LinkedTo L). made s.links.now) (λ s. (graph s.links.now).linked s.load) w found)

-- ---- two tests, one after the other

both_filters : {X : Type 0} (p q : X → Bool) (xs : List X) → filter q (filter p xs) ≡ filter (λ x. p x && q x) xs
both_filters p q [] = refl
both_filters p q (x ∷ xs) =
    elim (p x) as (λ b. filter q (cond b (x ∷ filter p xs) (filter p xs)) ≡ cond (b && q x) (x ∷ filter (λ y. p y && q y) xs) (filter (λ y. p y && q y) xs)) [
      | true ↦ ap (λ ys. cond (q x) (x ∷ ys) ys) (both_filters p q xs)
      | false ↦ both_filters p q xs
    ]

pub find_of_filter : {X : Type 0} (p q : X → Bool) (xs : List X) → find q (filter p xs) ≡ find (λ x. p x && q x) xs
find_of_filter p q [] = refl
find_of_filter p q (x ∷ xs) =
    elim (p x) as (λ b. find q (cond b (x ∷ filter p xs) (filter p xs)) ≡ cond (b && q x) (Some x) (find (λ y. p y && q y) xs)) [
      | true ↦ ap (λ o. cond (q x) (Some x) o) (find_of_filter p q xs)
      | false ↦ find_of_filter p q xs
    ]

-- ---- what is found and counted of the numbers in a row

NextBelow-from_find : (test : ℕ → Bool) (from end n : ℕ) → end - from ≡ n → NextBelow test from end (find test (range_with_len from n))
NextBelow-from_find test from end zero left = λ j l m. absurd (omega arith)
NextBelow-from_find test from end (suc n) left = first_or_later (test from) refl (find test (range_with_len (from + 1) n)) (NextBelow-from_find test (from + 1) end n (omega arith))
  where
    first_or_later : (b : Bool) → test from ≡ b → (r : Option ℕ) → NextBelow test (from + 1) end r → NextBelow test from end (cond b (Some from) r)
    first_or_later true e r later = record { past = omega arith; hit = e; before = λ j l m. absurd (omega arith) }
    first_or_later false e None later = λ j l m. ⊎_elim (λ same. ap test (sym same) ∙ e) (λ ne. later j (omega (arith, ne)) m) (cases_eq from j)
    first_or_later false e (Some k) later =
        record {
          past = omega (arith, later.past);
          hit = later.hit;
          before = λ j l m. ⊎_elim (λ same. ap test (sym same) ∙ e) (λ ne. later.before j (omega (arith, ne)) m) (cases_eq from j);
        }

-- what `find` gives of the numbers that pass p, where it looks for one that passes q too
pub NextBelow-from_members : (p q : ℕ → Bool) (from end : ℕ) (r : Option ℕ) → option_map (λ x. x) r ≡ find q (members p from end) → NextBelow (λ x. p x && q x) from end r
NextBelow-from_members p q from end r e =
    let found : r ≡ find (λ x. p x && q x) (range_with_len from (end - from)) = sym (option_map_id r) ∙ e ∙ find_of_filter p q (range_with_len from (end - from)) in
    subst (NextBelow (λ x. p x && q x) from end) (sym found) (NextBelow-from_find (λ x. p x && q x) from end (end - from) refl)

count_from_filter : (end : ℕ) (test : ℕ → Bool) → length (filter test (range_with_len 0 (end - 0))) ≡ count end test
count_from_filter end test = omega (arith, and_before 0 (end - 0) end (omega arith))
  where
    one_more : (b : Bool) (x : ℕ) (xs : List ℕ) → length (cond b (x ∷ xs) xs) ≡ length xs + cond b 1 0
    one_more true x xs = omega arith
    one_more false x xs = omega arith

    and_before : (from n m : ℕ) → from + n ≡ m → length (filter test (range_with_len from n)) + count from test ≡ count m test
    and_before from zero m e = omega (arith, ap (λ (k : ℕ). count k test) (sym (add-zero from) ∙ e))
    and_before from (suc n) m e =
        let more : count (from + 1) test ≡ count from test + cond (test from) 1 0 = ap (λ (k : ℕ). count k test) (add-one from) in
        omega (arith, and_before (from + 1) n m (omega arith), one_more (test from) from (filter test (range_with_len (from + 1) n)))

-- how many of the numbers that pass p pass q too
pub count_from_members : (p q : ℕ → Bool) (end : ℕ) → length (filter q (members p 0 end)) ≡ count end (λ x. p x && q x)
count_from_members p q end = ap length (both_filters p q (range_with_len 0 (end - 0))) ∙ count_from_filter end (λ x. p x && q x)

-- the next linked load of all is the next one below the number of loads
pub Next-from_below : (g : Graph) → Simple g → (a from n : ℕ) → n ≡ g.size → (r : Option ℕ) → NextBelow (g.linked a) from n r → Next (g.linked a) from r
Next-from_below g s a from n whole None none = λ j l. ⊎_elim (λ m. none j l m) (λ past. off j (omega (arith, past)) (g.linked a j) refl) (cases_lt j n)
  where
    off : (j : ℕ) → g.size ≤ j → (b : Bool) → g.linked a j ≡ b → g.linked a j ≡ false
    off j past true e = absurd (omega (arith, s.below j a (s.symmetric j a ∙ e)))
    off j past false e = e
Next-from_below g s a from n whole (Some k) first = first
