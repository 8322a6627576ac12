-- The boards on which six pairs are linked, 0 and 1 unlinked, and 3 withdrawn: nothing is refused, and the law holds of what is read.
use Rattle.std.proofs.Common.{ℕ, List, [], ◌∷◌, Ok, Err, Option, refl, arith}
use Rattle.graph.specs.Graph.{Graph, no_links}
use Rattle.links.specs.Books.{Ledger, fresh_ledger, Stands as BookStands}
use Rattle.links.specs.declared.refusal.Refused.{Refused}
use Rattle.rules.specs.Boards.{played_by}
use Rattle.rules.specs.Calls.{Position, unlink, withdraw, after, opened}
use Rattle.rules.specs.Repair.{Ranking}
use Rattle.board.specs.declared.Board.{Board}
use Rattle.board.specs.Boards.{Opens, Steps}
use Rattle.board.specs.Runs.{none, more, Law}
use Rattle.board_examples.specs.Lawful.{Lawful}
use Rattle.board_examples.specs.Played.{Plays, Reads, linkings}
use Rattle.board_examples.proofs.ByLaw.{two_thirds_read, few_read}
use Rattle.board_examples.proofs.Positions.{At, at_opening, links_refused, at_links, call_answers, at_call, read_at}
use Rattle.board_examples.proofs.Refusals.{not_refused, err_granted, granted_same}

abbrev pairs : List (ℕ × ℕ)
pairs = (0, 1) ∷ (2, 3) ∷ (0, 2) ∷ (1, 3) ∷ (1, 5) ∷ (3, 4) ∷ []

-- the positions, by the rankings of the boards
abbrev start : Ranking → Position
start order = opened order (no_links 24) (fresh_ledger 24 23 30)

abbrev with_links : Ranking → Ranking → Position
with_links order first = played_by first (linkings pairs) (start order)

abbrev without_one : Ranking → Ranking → Ranking → Position
without_one order first second = after second (with_links order first) (unlink 0 1)

abbrev without_three : Ranking → Ranking → Ranking → Ranking → Position
without_three order first second third = after third (without_one order first second) (withdraw 3)

module _ {B R : Type 0} {graph : B → Graph} {made : B → Type 0} {ledger : B → Ledger} {before : R → Ranking}
    (book : B) (ranking : R) (is_fresh : BookStands graph made ledger book (no_links 24) (fresh_ledger 24 23 30))
    (first : Board B R) (opens : Opens graph made ledger before book ranking first) where
  at₀ : At graph made ledger first (start (before ranking))
  at₀ = at_opening book ranking first (no_links 24) (fresh_ledger 24 23 30) is_fresh opens

  module _ {F : Type 0} {fixed : B → F} (second : Board B R) where
    pub never_linked : (e : Refused) → Plays graph made ledger fixed before first pairs (Err e) second → ⊥
    never_linked e plays = not_refused e refl (links_refused first second (start (before ranking)) at₀ pairs e plays)

    module _ (linked : Plays graph made ledger fixed before first pairs (Ok tt) second) where
      at₁ : At graph made ledger second (with_links (before ranking) (before first.ranking))
      at₁ = at_links first second (start (before ranking)) at₀ pairs linked

      pub reads_linked : (e : Refused) → Reads graph made ledger second 24 (Err e) → ⊥
      reads_linked e reads = err_granted e _ (read_at second (with_links (before ranking) (before first.ranking)) at₁ 24 (Err e) (omega arith) reads)

      module _ (third : Board B R) where
        pub never_unlinked : (e : Refused) → Steps graph made ledger fixed before second (unlink 0 1) (Err e) third → ⊥
        never_unlinked e step = not_refused e refl (call_answers second third (with_links (before ranking) (before first.ranking)) at₁ (unlink 0 1) (Err e) step)

        module _ (unlinked : Steps graph made ledger fixed before second (unlink 0 1) (Ok tt) third) where
          at₂ : At graph made ledger third (without_one (before ranking) (before first.ranking) (before second.ranking))
          at₂ = at_call second third (with_links (before ranking) (before first.ranking)) at₁ (unlink 0 1) (Ok tt) unlinked

          pub reads_unlinked : (e : Refused) → Reads graph made ledger third 24 (Err e) → ⊥
          reads_unlinked e reads = err_granted e _ (read_at third (without_one (before ranking) (before first.ranking) (before second.ranking)) at₂ 24 (Err e) (omega arith) reads)

          module _ (fourth : Board B R) where
            pub never_withdrawn : (e : Refused) → Steps graph made ledger fixed before third (withdraw 3) (Err e) fourth → ⊥
            never_withdrawn e step = not_refused e refl (call_answers third fourth (without_one (before ranking) (before first.ranking) (before second.ranking)) at₂ (withdraw 3) (Err e) step)

            module _ (withdrawn : Steps graph made ledger fixed before third (withdraw 3) (Ok tt) fourth) where
              at₃ : At graph made ledger fourth (without_three (before ranking) (before first.ranking) (before second.ranking) (before third.ranking))
              at₃ = at_call third fourth (without_one (before ranking) (before first.ranking) (before second.ranking)) at₂ (withdraw 3) (Ok tt) withdrawn

              pub reads_withdrawn : (e : Refused) → Reads graph made ledger fourth 24 (Err e) → ⊥
              reads_withdrawn e reads = err_granted e _ (read_at fourth (without_three (before ranking) (before first.ranking) (before second.ranking) (before third.ranking)) at₃ 24 (Err e) (omega arith) reads)

              pub lawful : Law graph made ledger fixed before first → (one two three : List (Option ℕ)) → Reads graph made ledger second 24 (Ok one) → Reads graph made ledger third 24 (Ok two) →
                  Reads graph made ledger fourth 24 (Ok three) → Lawful (record { linked = one; unlinked = two; withdrawn = three })
              lawful law one two three reads-one reads-two reads-three =
                  let x₁ = with_links (before ranking) (before first.ranking) in
                  let x₂ = without_one (before ranking) (before first.ranking) (before second.ranking) in
                  let x₃ = without_three (before ranking) (before first.ranking) (before second.ranking) (before third.ranking) in
                  let run₁ = linked.run first none in
                  let run₂ = more second run₁ (unlink 0 1) (Ok tt) third unlinked in
                  let run₃ = more third run₂ (withdraw 3) (Ok tt) fourth withdrawn in
                  let read₁ = granted_same _ _ (read_at second x₁ at₁ 24 (Ok one) (omega arith) reads-one) in
                  let read₂ = granted_same _ _ (read_at third x₂ at₂ 24 (Ok two) (omega arith) reads-two) in
                  let read₃ = granted_same _ _ (read_at fourth x₃ at₃ 24 (Ok three) (omega arith) reads-three) in
                  record {
                    linked = two_thirds_read first law second x₁ run₁ at₁ one read₁;
                    unlinked = two_thirds_read first law third x₂ run₂ at₂ two read₂;
                    withdrawn = two_thirds_read first law fourth x₃ run₃ at₃ three read₃;
                    few_unlinked = few_read first law second x₁ run₁ at₁ one read₁ third x₂ at₂ two read₂ (unlink 0 1) tt unlinked;
                    few_withdrawn = few_read first law third x₂ run₂ at₂ two read₂ fourth x₃ at₃ three read₃ (withdraw 3) tt withdrawn;
                  }
