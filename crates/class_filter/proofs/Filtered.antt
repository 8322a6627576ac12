-- What a filter leaves of a graph and of a ledger, and of a change to them.
use Rattle.std.proofs.Common.{◌≡◌, ℕ, ◌≤◌, Bool, true, false, not, ◌&&◌, ◌||◌, eqb, ltb, List, get_or, sym, refl, ap, ◌∙◌, ap₂, ⊎_elim, arith}
use mathlib.Core.Bool.{or_comm}
use Rattle.std.proofs.lemmas.Bool.{and_parts, and_left, and_right, eqb-true, ltb-true, or_cases}
use Rattle.graph.specs.Graph.{Graph, Simple, link_count, added, removed, is_pair}
use Rattle.graph.proofs.Injections.{link_count_fewer}
use Rattle.links.specs.Books.{Ledger, Bounded, adding, removing}
use Rattle.bits.specs.Bit.{bit}
use Rattle.class_filter.specs.Classes.{class_of, bars_classes, hidden, filtered, filtered_ledger}

-- ---- which pairs are hidden

and_swap : (x y z : Bool) → (x && (y && z)) ≡ (y && (x && z))
and_swap true y z = refl
and_swap false true z = refl
and_swap false false z = refl

abbrev pub Symmetric : (ℕ → ℕ → Bool) → Type 0
Symmetric hid = (a b : ℕ) → hid a b ≡ hid b a

pub hidden_symmetric : (classes bars : List ℕ) → Symmetric (hidden classes bars)
unfolding bars_classes
hidden_symmetric classes bars a b = or_comm (bit (get_or bars (class_of classes a) 0) (class_of classes b)) _

-- ---- a filter over a graph and a ledger

module _ (hid : ℕ → ℕ → Bool) (g : Graph) where
  pub filtered_links : link_count (filtered hid g) ≤ link_count g
  filtered_links =
      link_count_fewer g (filtered hid g) refl (λ a b e. (and_parts (g.linked a b) _ e).0)

  pub filtered_simple : Symmetric hid → Simple g → Simple (filtered hid g)
  filtered_simple even s =
      record {
        small = s.small;
        loopless = λ a. and_left (g.linked a a) _ (s.loopless a);
        symmetric = λ a b. ap₂ (λ (x y : Bool). x && not y) (s.symmetric a b) (even a b);
        below = λ a b e. s.below a b (and_parts (g.linked a b) _ e).0;
      }

  pub filtered_bounded : (l : Ledger) → Symmetric hid → Bounded g l → Bounded (filtered hid g) (filtered_ledger hid g.size l)
  filtered_bounded l even bound =
      record {
        limit_bound = bound.limit_bound;
        within = omega (arith, filtered_links, bound.within);
        barred_symmetric = λ a b.
            ap₂ (λ (x y : Bool). x || (ltb a g.size && (ltb b g.size && y))) (bound.barred_symmetric a b) (even a b)
            ∙ ap (λ (x : Bool). l.barred b a || x) (and_swap (ltb a g.size) (ltb b g.size) (hid b a));
        barred_below = λ a b e. ⊎_elim (bound.barred_below a b) (λ own. ltb-true a g.size (and_parts (ltb a g.size) _ own).0) (or_cases (l.barred a b) _ e);
        spare_below = bound.spare_below;
      }

-- ---- a change of a link that is not hidden

module _ (hid : ℕ → ℕ → Bool) (g : Graph) (a b : ℕ) (seen : hid a b ≡ false) where
  linked_seen : (g.linked a b && not (hid a b)) ≡ g.linked a b
  linked_seen = rw seen (and_true (g.linked a b))
    where
      and_true : (x : Bool) → (x && true) ≡ x
      and_true true = refl
      and_true false = refl

  barred_seen : (l : Ledger) → (filtered_ledger hid g.size l).barred a b ≡ l.barred a b
  barred_seen l = or_off (l.barred a b) _ (and_right (ltb a g.size) _ (and_right (ltb b g.size) _ seen))
    where
      or_off : (x y : Bool) → y ≡ false → (x || y) ≡ x
      or_off true y e = refl
      or_off false y e = e

  pub adding_filtered : (l : Ledger) → adding (filtered hid g) (filtered_ledger hid g.size l) a b ≡ adding g l a b
  adding_filtered l = rw (barred_seen l, linked_seen)

  pub removing_filtered : removing (filtered hid g) a b ≡ removing g a b
  removing_filtered = rw linked_seen

  pub filtered_removed : filtered hid (removed g a b) ≡ removed (filtered hid g) a b
  filtered_removed = λ i. record { size = g.size; linked = λ x y. without_pair (g.linked x y) (is_pair a b x y) (hid x y) i }
    where
      without_pair : (x p h : Bool) → ((x && not p) && not h) ≡ ((x && not h) && not p)
      without_pair false p h = refl
      without_pair true true true = refl
      without_pair true true false = refl
      without_pair true false true = refl
      without_pair true false false = refl

  module _ (even : Symmetric hid) where
    -- nor is it under its other name
    pair_seen : (x y : ℕ) → is_pair a b x y ≡ true → hid x y ≡ false
    pair_seen x y e =
        ⊎_elim
        (λ p. let q = and_parts (eqb a x) (eqb b y) p in sym (ap₂ hid (eqb-true a x q.0) (eqb-true b y q.1)) ∙ seen)
        (λ p. let q = and_parts (eqb a y) (eqb b x) p in sym (ap₂ hid (eqb-true b x q.1) (eqb-true a y q.0)) ∙ even b a ∙ seen)
        (or_cases (eqb a x && eqb b y) (eqb a y && eqb b x) e)

    pub filtered_added : filtered hid (added g a b) ≡ added (filtered hid g) a b
    filtered_added = λ i. record { size = g.size; linked = λ x y. with_pair (g.linked x y) (is_pair a b x y) (hid x y) (pair_seen x y) i }
      where
        with_pair : (x p h : Bool) → (p ≡ true → h ≡ false) → ((x || p) && not h) ≡ ((x && not h) || p)
        with_pair true true true e = sym (e refl)
        with_pair true true false e = refl
        with_pair true false true e = refl
        with_pair true false false e = refl
        with_pair false true h e = ap not (e refl)
        with_pair false false h e = refl
