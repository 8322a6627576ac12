-- A bit matrix after the two bits of a link were written.
use Rattle.std.proofs.Common.{◌≡◌, ℕ, ◌+◌, ◌-◌, ◌*◌, ◌%◌, ◌<◌, ◌≤◌, Bool, true, false, cond, not, ◌&&◌, ◌||◌, eqb, ltb, List, length, get_or, sym, refl, subst, ap, ◌∙◌, ap₂, ⊎_elim, arith}
use mathlib.Core.Bool.{and_comm}
use Rattle.std.proofs.lemmas.Bool.{cases_lt, lt-ltb, ne_eqb, or_from, and_left, and_right}
use Rattle.graph.specs.Graph.{Graph, Simple, count, is_pair, added, removed, degree, link_count}
use Rattle.graph.proofs.Counts.{count_lt, not_pair}
use Rattle.graph.proofs.Ends.{pair_swap, pair_past}
use Rattle.graph.proofs.Changes.{link_count_added, link_count_removed}
use Rattle.links.specs.Books.{Stands, lowered, raised}
use Rattle.links.proofs.Spares.{left_less, left_more}
use Rattle.links.proofs.Reasons.{TwoLoads, Addable, Removable}
use Rattle.bits.specs.Bit.{bit}
use Rattle.bit_matrix.specs.declared.BitMatrix.{BitMatrix}
use Rattle.bit_matrix.specs.Matrix.{row_words, word_at, cell, held, is_place, is_link_place, matrix, matrix_graph, MatrixMade, matrix_ledger, rewritten, Written}
use Rattle.bit_matrix.proofs.Cells.{linked_in, linked_past, linked_past_row, same_place, word_in, made_simple}

-- of two loads of a made matrix both words are there
pub link_written : (on : Bool) (s : BitMatrix) (after : List ℕ) (a b : ℕ) → MatrixMade s → TwoLoads s.size a b → Written on (λ k j. held s a b k && is_link_place s.size a b k j) s.words.now after → Written on (is_link_place s.size a b) s.words.now after
link_written on s after a b made two w =
    record {
      same_length = w.same_length;
      bits = λ k j. w.bits k j ∙ ap (λ (t : Bool). cond t on (bit (get_or s.words.now k 0) j)) (there k j);
    }
  where
    off : (x y k j : ℕ) → x < s.size → y < s.size → length s.words.now ≤ k → is_place s.size x y k j ≡ false
    off x y k j l m past = and_left _ _ (ne_eqb (word_at s.size x y) k (λ e. omega (arith, e, word_in s.size x y l (omega arith), made.enough)))

    there : (k j : ℕ) → (held s a b k && is_link_place s.size a b k j) ≡ is_link_place s.size a b k j
    there k j =
        ⊎_elim
        (λ l. rw (lt-ltb a s.size two.a_below, lt-ltb b s.size two.b_below, lt-ltb k (length s.words.now) l))
        (λ past.
        let none : is_link_place s.size a b k j ≡ false = or_from _ _ (off a b k j two.a_below two.b_below past) (off b a k j two.b_below two.a_below past) in
        and_right (held s a b k) _ none ∙ sym none)
        (cases_lt k (length s.words.now))

module _ (on : Bool) (s : BitMatrix) (after : List ℕ) (a b : ℕ) (made : MatrixMade s) (two : TwoLoads s.size a b) (w : Written on (is_link_place s.size a b) s.words.now after) where
  cells : (x y : ℕ) → y < 64 * row_words s.size → cell s.size after x y ≡ cond (is_pair a b x y) on (cell s.size s.words.now x y)
  unfolding cell
  cells x y h =
      w.bits (word_at s.size x y) (y % 64)
      ∙ ap₂ (λ (p q : Bool). cond (p || q) on (bit (get_or s.words.now (word_at s.size x y) 0) (y % 64)))
      (same_place s.size a b x y (omega (arith, two.b_below)) h)
      (same_place s.size b a x y (omega (arith, two.a_below)) h ∙ and_comm (eqb b x) (eqb a y))

  linked_after : (x y : ℕ) → (matrix s.size after).linked x y ≡ cond (is_pair a b x y) on ((matrix_graph s).linked x y)
  linked_after x y =
      ⊎_elim
      (λ h. ⊎_elim
      (λ k. linked_in s.size after x y h k ∙ cells x y (omega arith) ∙ ap (cond (is_pair a b x y) on) (sym (linked_in s.size s.words.now x y h k)))
      (λ k. linked_past s.size after x y k ∙ sym (ap₂ (λ (p t : Bool). cond p on t) (pair_past s.size a b x y two.a_below two.b_below k) (linked_past s.size s.words.now x y k)))
      (cases_lt y s.size))
      (λ h. linked_past_row s.size after x y h ∙ sym (ap₂ (λ (p t : Bool). cond p on t) (pair_swap a b x y ∙ pair_past s.size a b y x two.a_below two.b_below h) (linked_past_row s.size s.words.now x y h)))
      (cases_lt x s.size)

  made_after : (next : ℕ) → next ≡ link_count (matrix s.size after) → next ≤ s.tally.limit → MatrixMade (rewritten s (record { limit = s.tally.limit; count = next }) after)
  made_after next counted within =
      record {
        small = made.small;
        limit_bound = made.limit_bound;
        enough = omega (arith, made.enough, w.same_length);
        loopless = λ x h. cells x x (omega arith) ∙ ap₂ (λ (p t : Bool). cond p on t) (not_pair a b x x (λ u v. two.apart (u ∙ sym v)) (λ u v. two.apart (u ∙ sym v))) (made.loopless x h);
        symmetric = λ x y h k. cells x y (omega arith) ∙ ap₂ (λ (p t : Bool). cond p on t) (pair_swap a b x y) (made.symmetric x y h k) ∙ sym (cells y x (omega arith));
        padded = λ x y h k e. cells x y e ∙ ap₂ (λ (p t : Bool). cond p on t) (pair_past s.size a b x y two.a_below two.b_below k) (made.padded x y h k e);
        counted = counted;
        within = within;
      }

  -- it stands for the graph and the ledger whose parts are these
  stands_after : (linked : ℕ → ℕ → Bool) (next : ℕ) (spare : ℕ → ℕ) (room : ℕ)
      → ((x y : ℕ) → cond (is_pair a b x y) on ((matrix_graph s).linked x y) ≡ linked x y)
      → next ≡ link_count (record { size = s.size; linked = linked }) → next ≤ s.tally.limit
      → ((x : ℕ) → cond (ltb x s.size) (s.size - 1 - count s.size (linked x)) 0 ≡ spare x) → s.tally.limit - next ≡ room
      → Stands matrix_graph MatrixMade matrix_ledger (rewritten s (record { limit = s.tally.limit; count = next }) after) (record { size = s.size; linked = linked }) (record { limit = s.tally.limit; barred = λ _ _. false; spare = spare; room = room })
  stands_after linked next spare room is-linked counted within is-spare is-room =
      record {
        graph_is = same;
        ledger_is = λ i. record {
          limit = s.tally.limit;
          barred = λ _ _. false;
          spare = λ x. (ap (λ (g : Graph). cond (ltb x s.size) (s.size - 1 - degree g x) 0) same ∙ is-spare x) i;
          room = is-room i;
        };
        still_made = made_after next (counted ∙ sym (ap link_count same)) within;
      }
    where
      same : matrix s.size after ≡ record { size = s.size; linked = linked }
      same = λ i. record { size = s.size; linked = λ x y. (linked_after x y ∙ is-linked x y) i }

pub grown : (s t : BitMatrix) (a b : ℕ) → MatrixMade s → Addable (matrix_graph s) (matrix_ledger s) a b → t ≡ rewritten s (record { limit = s.tally.limit; count = s.tally.count + 1 }) t.words.now → Written true (is_link_place s.size a b) s.words.now t.words.now
    → Stands matrix_graph MatrixMade matrix_ledger t (added (matrix_graph s) a b) (lowered (matrix_ledger s) a b)
grown s t a b made can is w =
    subst (λ (m : BitMatrix). Stands matrix_graph MatrixMade matrix_ledger m (added (matrix_graph s) a b) (lowered (matrix_ledger s) a b)) (sym is)
    (stands_after true s t.words.now a b made can.two w (added (matrix_graph s) a b).linked (s.tally.count + 1) _ _ (λ x y. or_cond (is_pair a b x y) _)
    (omega (arith, made.counted, link_count_added (matrix_graph s) a b simple can.two.apart can.two.a_below can.two.b_below can.off))
    (omega (arith, can.room))
    (left_less (matrix_graph s) simple (s.size - 1) a b can.two can.off)
    (omega arith))
  where
    simple : Simple (matrix_graph s)
    simple = made_simple s made

    or_cond : (p t : Bool) → cond p true t ≡ (t || p)
    or_cond true true = refl
    or_cond true false = refl
    or_cond false true = refl
    or_cond false false = refl

pub shrunk : (s t : BitMatrix) (a b : ℕ) → MatrixMade s → Removable (matrix_graph s) a b → t ≡ rewritten s (record { limit = s.tally.limit; count = s.tally.count - 1 }) t.words.now → Written false (is_link_place s.size a b) s.words.now t.words.now
    → Stands matrix_graph MatrixMade matrix_ledger t (removed (matrix_graph s) a b) (raised (matrix_ledger s) a b)
shrunk s t a b made can is w =
    subst (λ (m : BitMatrix). Stands matrix_graph MatrixMade matrix_ledger m (removed (matrix_graph s) a b) (raised (matrix_ledger s) a b)) (sym is)
    (stands_after false s t.words.now a b made can.two w (removed (matrix_graph s) a b).linked (s.tally.count - 1) _ _ (λ x y. and_cond (is_pair a b x y) _)
    (omega (arith, made.counted, one_fewer))
    (omega (arith, made.within))
    (left_more (matrix_graph s) simple (s.size - 1) a b can.two can.on (λ x l. omega (arith, count_lt s.size ((matrix_graph s).linked x) x l (simple.loopless x))))
    (omega (arith, made.counted, made.within, one_fewer)))
  where
    simple : Simple (matrix_graph s)
    simple = made_simple s made

    one_fewer : link_count (removed (matrix_graph s) a b) + 1 ≡ link_count (matrix_graph s)
    one_fewer = link_count_removed (matrix_graph s) a b simple can.two.apart can.two.a_below can.two.b_below can.on

    and_cond : (p t : Bool) → cond p false t ≡ (t && not p)
    and_cond true true = refl
    and_cond true false = refl
    and_cond false true = refl
    and_cond false false = refl
