-- Three loads, of which 0 and 1 are linked, and 1 and 2 linked and unlinked.
use Rattle.std.proofs.Common.{◌≡◌, None, Ok, Result, refl}
use Rattle.graph.specs.Graph.{Graph, no_links, added, removed}
use Rattle.links.specs.declared.refusal.Refused.{Refused}
use Rattle.links.specs.Books.{Ledger, Stands, Adds, Removes, adding, lowered, raised}
use Rattle.book_examples.proofs.Played.{granted_add, granted_remove}

abbrev pub two_links : Graph
two_links = added (added (no_links 3) 0 1) 1 2

abbrev pub one_link : Graph
one_link = removed two_links 2 1

abbrev pub two_less : Ledger → Ledger
two_less l = lowered (lowered l 0 1) 1 2

module _ {S : Type 0} (graph : S → Graph) (made : S → Type 0) (ledger : S → Ledger) (l : Ledger) where
  pub linked_twice : (m s t : S) (r q : Result Unit Refused) → adding (no_links 3) l 0 1 ≡ None → adding (added (no_links 3) 0 1) (lowered l 0 1) 1 2 ≡ None → Stands graph made ledger m (no_links 3) l → Adds graph made ledger m 0 1 r s → Adds graph made ledger s 1 2 q t
      → (q ≡ Ok tt) × Stands graph made ledger t two_links (two_less l)
  linked_twice m s t r q none-one none-two stands first second =
      granted_add graph made ledger s t (added (no_links 3) 0 1) (lowered l 0 1) 1 2 q (granted_add graph made ledger m s (no_links 3) l 0 1 r stands first none-one).1 second none-two

  pub unlinked : (t u : S) (p : Result Unit Refused) → Stands graph made ledger t two_links (two_less l) → Removes graph made ledger t 2 1 p u
      → (p ≡ Ok tt) × Stands graph made ledger u one_link (raised (two_less l) 2 1)
  unlinked t u p stands removes = granted_remove graph made ledger t u two_links (two_less l) 2 1 p stands removes refl
