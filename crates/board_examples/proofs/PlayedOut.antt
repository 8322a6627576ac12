-- Six loads played out, from a fresh board on.
use Rattle.std.proofs.Common.{◌≡◌, ℕ, ◌≤◌, List, [], ◌∷◌, Some, None, Ok, Err, Option, Result, refl, ap, ◌∙◌, arith}
use Rattle.std.proofs.lemmas.Bool.Decides.{nat_tests}
use Rattle.graph.specs.Graph.{Graph}
use Rattle.graph.specs.Isolated.{isolated}
use Rattle.links.specs.Books.{Ledger}
use Rattle.links.specs.Refusals.{Reason}
use Rattle.links.specs.declared.refusal.Layer.TheVariants.{Board as ByBoard}
use Rattle.links.specs.declared.refusal.Refusal.TheVariants.{NoSuchLoad}
use Rattle.links.specs.declared.refusal.Refused.{Refused}
use Rattle.bits.specs.Bit.{bit}
use Rattle.bit_matrix.specs.Matrix.{checking}
use Rattle.ranking.specs.declared.ByNumber.{ByNumber}
use Rattle.rules.specs.Boards.{by_number, fresh, six, six_parted}
use Rattle.rules.specs.Calls.{Position, unlink, link, depart, reason, after, isolated_two, granted, unless}
use Rattle.rules.specs.Repair.{Ranking}
use Rattle.rules.proofs.Boards.{six_played}
use Rattle.board.specs.declared.Board.{Board}
use Rattle.board.specs.Boards.{Steps}
use Rattle.board_examples.specs.Lent.{five_links, links_left}
use Rattle.board_examples.specs.Played.{Plays}
use Rattle.board_examples.proofs.Lent.{Words}
use Rattle.board_examples.proofs.Positions.{At, at_links, call_answers, at_call}
use Rattle.board_examples.proofs.Refusals.{not_refused, refused_with}

abbrev pub pairs : List (ℕ × ℕ)
pairs = (0, 1) ∷ (2, 3) ∷ (0, 2) ∷ (1, 3) ∷ (1, 5) ∷ (3, 4) ∷ []

-- after 0 and 6 could not be linked
abbrev pub six_refused : Position
six_refused = after by_number six_parted (link 0 6)

abbrev pub six_departed : Position
six_departed = after by_number six_refused (depart 4)

no_load : reason six_parted (link 0 6) ≡ Some (record { number = 4; values = []; layer = ByBoard })
no_load = refl

departs : reason six_refused (depart 4) ≡ None
departs = refl

departed : (before : Ranking) (x : Position) (a b : ℕ) → reason x (depart a) ≡ None → x.partners a ≡ Some b → (after before x (depart a)).graph ≡ isolated (isolated x.graph a) b
departed before x a b none partner =
    ap (λ (o : Option Reason). (unless o x (granted before x (depart a))).graph) none ∙ ap (isolated_two x.graph a) partner

parted_links : six_refused.graph ≡ five_links
parted_links = refl

departed_links : six_departed.graph ≡ links_left
departed_links =
    departed by_number six_refused 4 3 departs refl ∙ ap (λ (g : Graph). isolated (isolated g 4) 3) parted_links

-- ---- what the links give in memory

pub six_words : Words 6 links_left (4 ∷ 32 ∷ 1 ∷ 0 ∷ 0 ∷ 2 ∷ [])
unfolding bit
six_words = record { values_are = record { small = omega arith; size = refl; narrow = refl }; one_word = refl; bits = refl }

pub six_words_long : (memory : ℕ) → checking 6 8 memory ≡ None → 6 ≤ memory
six_words_long memory none = grind (arith, nat_tests)

-- ---- the calls

module _ {B F : Type 0} {graph : B → Graph} {made : B → Type 0} {ledger : B → Ledger} {fixed : B → F} (s u v w t : Board B ByNumber) (at₀ : At graph made ledger s (fresh 6 8)) where
  module _ (linked : Plays graph made ledger fixed (λ _. by_number) s pairs (Ok tt) u) where
    at₁ : At graph made ledger u six
    at₁ = at_links s u (fresh 6 8) at₀ pairs linked

    pub never_unlinked : (e : Refused) → Steps graph made ledger fixed (λ _. by_number) u (unlink 0 1) (Err e) v → ⊥
    never_unlinked e step = not_refused e six_played.parts (call_answers u v six at₁ (unlink 0 1) (Err e) step)

    module _ (unlinked : Steps graph made ledger fixed (λ _. by_number) u (unlink 0 1) (Ok tt) v) (r : Result Unit Refused) (linking : Steps graph made ledger fixed (λ _. by_number) v (link 0 6) r w) where
      at₂ : At graph made ledger v six_parted
      at₂ = at_call u v six at₁ (unlink 0 1) (Ok tt) unlinked

      at₃ : At graph made ledger w six_refused
      at₃ = at_call v w six_parted at₂ (link 0 6) r linking

      pub told_no_load : r ≡ Err (record { refusal = NoSuchLoad; layer = ByBoard })
      told_no_load = refused_with (λ x. x ≡ tt) (reason six_parted (link 0 6)) r (record { refusal = NoSuchLoad; layer = ByBoard }) (call_answers v w six_parted at₂ (link 0 6) r linking) no_load

      pub never_departed : (e : Refused) → Steps graph made ledger fixed (λ _. by_number) w (depart 4) (Err e) t → ⊥
      never_departed e step = not_refused e departs (call_answers w t six_refused at₃ (depart 4) (Err e) step)

      pub left : Steps graph made ledger fixed (λ _. by_number) w (depart 4) (Ok tt) t → graph t.book ≡ links_left
      left step =
          ap (λ (x : Position). x.graph) (at_call w t six_refused at₃ (depart 4) (Ok tt) step).position_is ∙ departed_links
