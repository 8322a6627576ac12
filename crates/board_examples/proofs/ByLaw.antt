-- What the law of runs says of partners that were read.
use Rattle.std.proofs.Common.{◌≡◌, ℕ, zero, suc, ◌+◌, ◌/◌, ◌<◌, ◌≤◌, not, List, None, Ok, Option, get_or, ap, ◌∙◌, subst, ap₂, arith}
use Rattle.graph.specs.Graph.{Graph}
use Rattle.graph.specs.Matching.{Partners}
use Rattle.graph.specs.Pairs.{has_partner, pairs}
use Rattle.graph.proofs.Counts.{count_ext}
use Rattle.links.specs.Books.{Ledger}
use Rattle.rules.specs.Boards.{listed}
use Rattle.rules.specs.Calls.{Position, Call, Answer}
use Rattle.rules.specs.Health.{TwoThirds, same_partner, changes}
use Rattle.rules.specs.Laws.{most, allowed}
use Rattle.rules.specs.Repair.{Ranking}
use Rattle.board.specs.declared.Board.{Board}
use Rattle.board.specs.Boards.{position, Steps}
use Rattle.board.specs.Runs.{Run, Law}
use Rattle.board_examples.specs.Lawful.{read_from, TwoThirdsRead, differing}
use Rattle.board_examples.proofs.Positions.{At}

pub get_listed : {A : Type 0} (f : ℕ → A) (i n k : ℕ) (z : A) → k < n → get_or (listed f i n) k z ≡ f (i + k)
get_listed f i zero k z l = absurd (omega arith)
get_listed f i (suc n) zero z l = let e : i ≡ i + 0 = omega arith in ap f e
get_listed f i (suc n) (suc k) z l =
    let e : i + 1 + k ≡ i + suc k = omega arith in
    get_listed f (i + 1) n k z (omega arith) ∙ ap f e

read_back : (p : Partners) (n : ℕ) (array : List (Option ℕ)) → array ≡ listed p 0 n → (a : ℕ) → a < n → read_from array a ≡ p a
read_back p n array same a l =
    let e : 0 + a ≡ a = omega arith in
    ap (λ (xs : List (Option ℕ)). get_or xs a None) same ∙ get_listed p 0 n a None l ∙ ap p e

module _ {B R F : Type 0} {graph : B → Graph} {made : B → Type 0} {ledger : B → Ledger} {fixed : B → F} {before : R → Ranking} (first : Board B R) (law : Law graph made ledger fixed before first) where
  module _ (s : Board B R) (x : Position) (run : Run graph made ledger fixed before first s) (at : At graph made ledger s x) (array : List (Option ℕ)) (read : array ≡ listed x.partners 0 x.graph.size) where
    pub two_thirds_read : TwoThirdsRead x.graph array
    two_thirds_read q matching =
        let n = x.graph.size in
        let held : TwoThirds x = subst TwoThirds at.position_is (law s run).two_thirds in
        let same : pairs n (read_from array) ≡ pairs n x.partners =
        ap (λ (k : ℕ). k / 2) (count_ext n (has_partner (read_from array)) (has_partner x.partners) (λ a l. ap (λ (o : Option ℕ). has_partner (λ _. o) a) (read_back x.partners n array read a l))) in
        omega (arith, held q matching, same)

    pub few_read : (t : Board B R) (y : Position) → At graph made ledger t y → (next : List (Option ℕ)) → next ≡ listed y.partners 0 x.graph.size → (c : Call) (v : Answer c) → Steps graph made ledger fixed before s c (Ok v) t →
        differing x.graph.size array next ≤ most c
    few_read t y after next read_next c v step =
        let n = x.graph.size in
        let by = (law s run).next c (Ok v) t step in
        let few : changes (position graph ledger s) (position graph ledger t) ≤ most c =
        subst (λ (o : Option _). changes (position graph ledger s) (position graph ledger t) ≤ allowed o c) by.answers.0 by.few in
        let there : changes x y ≤ most c =
        subst (λ (z : Position). changes x z ≤ most c) after.position_is
        (subst (λ (z : Position). changes z (position graph ledger t) ≤ most c) at.position_is few) in
        let same : differing n array next ≡ changes x y =
        count_ext n (λ a. not (same_partner (read_from array a) (read_from next a))) (λ a. not (same_partner (x.partners a) (y.partners a)))
        (λ a l. ap₂ (λ (o p : Option ℕ). not (same_partner o p)) (read_back x.partners n array read a l) (read_back y.partners n next read_next a l)) in
        omega (arith, there, same)
