use Rattle.std.proofs.Common.{arith}
use Rattle.std.proofs.lemmas.Bool.Decides.{nat_tests}
use Rattle.book_examples.proofs.LinkLists.{next_is, next_none}
use Rattle.book_examples.proofs.lists.next_linked.Goals as goal

pub returns : goal.returns
returns c =
    let made = c.new-list.ensures.made in
    let listing = c.new-list.ensures.listing in
    let n0-0 = next_is _ _ listing _ _ _ 1 (c.next_linked.ensures made) (grind (arith, nat_tests)) in
    let n0-2 = next_is _ _ listing _ _ _ 3 (c.next_linked-2.ensures made) (grind (arith, nat_tests)) in
    let n0-4 = next_none _ _ listing _ _ _ (c.next_linked-3.ensures made) (λ j l. grind (arith, nat_tests)) in
    let n3-0 = next_is _ _ listing _ _ _ 0 (c.next_linked-4.ensures made) (grind (arith, nat_tests)) in
    let n3-1 = next_is _ _ listing _ _ _ 1 (c.next_linked-5.ensures made) (grind (arith, nat_tests)) in
    let n2-0 = next_none _ _ listing _ _ _ (c.next_linked-6.ensures made) (λ j l. grind (arith, nat_tests)) in
    let n5-0 = next_none _ _ listing _ _ _ (c.next_linked-7.ensures made) (λ j l. grind (arith, nat_tests)) in
    cc
