-- A board just opened.
use Rattle.std.proofs.Common.{◌≡◌, ℕ, [], None, sym, refl, subst}
use Rattle.graph.specs.Graph.{Graph, Simple}
use Rattle.graph.specs.Matching.{Partners, Matching}
use Rattle.rules.specs.Repair.{Ranking, repair}
use Rattle.rules.specs.Calls.{up_to, opened}
use Rattle.rules.specs.Threshold.{threshold}
use Rattle.rules.specs.Health.{Sound}
use Rattle.rules.proofs.Calls.{opening_sound}
use Rattle.links.specs.Books.{Ledger, Bounded}
use Rattle.tables.specs.declared.Tables.{Tables}
use Rattle.tables.specs.Views.{partners_of}
use Rattle.repair.specs.Holds.{Changes, Holds}
use Rattle.board.specs.Recording.{AllFree}
use Rattle.board.specs.Boards.{position, Opens}

empty_matching : (g : Graph) → Matching g (λ _. None)
empty_matching g = record { returned = λ a b e. cc; linked = λ a b e. cc }

pub opened_holds : (before : Ranking) (g : Graph) (l : Ledger) (n : ℕ) {s u : Tables} → n ≡ g.size →
    AllFree g s → Changes g (repair before (threshold l.limit) g (up_to n [])) s u → Holds g (opened before g l).partners u
opened_holds before g l n {s} {u} n-is free change =
    let same : repair before (threshold l.limit) g (up_to n []) (partners_of s) ≡ (opened before g l).partners = λ i. repair before (threshold l.limit) g (up_to (n-is i) []) (free.partners i) in
    subst (λ (q : Partners). Holds g q u) same (change free.agrees (subst (Matching g) (sym free.partners) (empty_matching g)))

module _ {B R : Type 0} (graph : B → Graph) (made : B → Type 0) (ledger : B → Ledger) (before : R → Ranking) (book : B) (ranking : R) (u : Tables) where
  pub opens : (made book → Simple (graph book)) → (made book → Bounded (graph book) (ledger book)) →
      (made book → Holds (graph book) (opened (before ranking) (graph book) (ledger book)).partners u) →
      Opens graph made ledger before book ranking (record { book = book; ranking = ranking; tables = u })
  opens simple bounded holds =
      let at : made book → position graph ledger (record { book = book; ranking = ranking; tables = u }) ≡ opened (before ranking) (graph book) (ledger book) =
      λ m i. record { graph = graph book; ledger = ledger book; partners = (holds m).partners i } in
      record {
        book_is = refl;
        ranking_is = refl;
        position_is = at;
        stands = λ m. record {
          book_made = m;
          agrees = (holds m).agrees;
          sound = subst Sound (sym (at m)) (opening_sound (before ranking) (graph book) (ledger book) (simple m) (bounded m));
        };
      }
