-- What a repair on the book of a board does, by the limit of that book.
use Rattle.std.proofs.Common.{◌≡◌, ℕ, List, sym, subst}
use Rattle.graph.specs.Graph.{Graph, Simple}
use Rattle.links.specs.Books.{Ledger}
use Rattle.rules.specs.Repair.{Ranking, repair}
use Rattle.rules.specs.Threshold.{threshold}
use Rattle.tables.specs.declared.Tables.{Tables}
use Rattle.tables.specs.Changes.{OfLinks}
use Rattle.repair.specs.declared.Repair.{Repair}
use Rattle.repair.specs.Holds.{Changes}
use Rattle.repair.specs.OnLinks.{OnLinks}

pub repaired_by_limit : {B R : Type 0} (graph : B → Graph) (made : B → Type 0) (ledger : B → Ledger) (before : R → Ranking) (r : Repair B R) (book : B) (ranking : R) (set : List ℕ) (s t : Tables) →
    r.links.now ≡ book → r.ranking.now ≡ ranking → (made book → r.limit ≡ (ledger book).limit) →
    OnLinks made graph before r (λ order n g. Changes g (repair order n g set) s t) →
    OfLinks (made book) (graph book) (λ g. Changes g (repair (before ranking) (threshold (ledger book).limit) g set) s t)
repaired_by_limit graph made ledger before r book ranking set s t same-book same-ranking limit h made-is =
    subst (λ (T : Type 0). T) (λ i. Simple (graph (same-book i)) → Changes (graph (same-book i)) (repair (before (same-ranking i)) (threshold (limit made-is i)) (graph (same-book i)) set) s t)
    (h (subst made (sym same-book) made-is))
