use Rattle.std.proofs.Common.{◌≡◌, ◌∙◌, ap}
use Rattle.graph.specs.Graph.{Graph, link_count}
use Rattle.book_examples.proofs.lists.refused_counts.Goals as goal

pub returns : goal.returns
returns c =
    let made = c.new-list.ensures.made in
    let listing = c.new-list.ensures.listing in
    let loads : c.size.result ≡ 0 = c.size.ensures.value made ∙ ap (λ (g : Graph). g.size) listing in
    let links : c.link_count.result ≡ 0 = c.link_count.ensures made ∙ ap link_count listing in
    cc
