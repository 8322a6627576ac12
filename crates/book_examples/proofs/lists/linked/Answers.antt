use Rattle.std.proofs.Common.{◌≡◌, true, false, ◌∙◌, ap}
use Rattle.graph.specs.Graph.{Graph}
use Rattle.book_examples.proofs.lists.linked.Goals as goal

pub returns : goal.returns
returns c =
    let made = c.new-list.ensures.made in
    let listing = c.new-list.ensures.listing in
    let l0-3 : c.linked.result ≡ true = c.linked.ensures made ∙ ap (λ (g : Graph). g.linked 0 3) listing in
    let l3-0 : c.linked-2.result ≡ true = c.linked-2.ensures made ∙ ap (λ (g : Graph). g.linked 3 0) listing in
    let l2-0 : c.linked-3.result ≡ false = c.linked-3.ensures made ∙ ap (λ (g : Graph). g.linked 2 0) listing in
    let l3-4 : c.linked-4.result ≡ false = c.linked-4.ensures made ∙ ap (λ (g : Graph). g.linked 3 4) listing in
    let l0-0 : c.linked-5.result ≡ false = c.linked-5.ensures made ∙ ap (λ (g : Graph). g.linked 0 0) listing in
    let l0-5 : c.linked-6.result ≡ false = c.linked-6.ensures made ∙ ap (λ (g : Graph). g.linked 0 5) listing in
    let l5-0 : c.linked-7.result ≡ false = c.linked-7.ensures made ∙ ap (λ (g : Graph). g.linked 5 0) listing in
    cc
