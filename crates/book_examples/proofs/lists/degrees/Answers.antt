use Rattle.std.proofs.Common.{◌≡◌, ◌∙◌, ap}
use Rattle.graph.specs.Graph.{Graph, degree}
use Rattle.book_examples.proofs.lists.degrees.Goals as goal

pub returns : goal.returns
returns c =
    let made = c.new-list.ensures.made in
    let listing = c.new-list.ensures.listing in
    let d0 : c.degree.result ≡ 2 = c.degree.ensures made ∙ ap (λ (g : Graph). degree g 0) listing in
    let d1 : c.degree-2.result ≡ 2 = c.degree-2.ensures made ∙ ap (λ (g : Graph). degree g 1) listing in
    let d3 : c.degree-3.result ≡ 2 = c.degree-3.ensures made ∙ ap (λ (g : Graph). degree g 3) listing in
    let d4 : c.degree-4.result ≡ 0 = c.degree-4.ensures made ∙ ap (λ (g : Graph). degree g 4) listing in
    let d5 : c.degree-5.result ≡ 0 = c.degree-5.ensures made ∙ ap (λ (g : Graph). degree g 5) listing in
    cc
