use Rattle.std.proofs.Common.{◌≡◌, ◌∙◌, map, length, rules}
use Rattle.std.proofs.lemmas.List.{length-map}
use Rattle.slab_layer.specs.SlabTable.{places_of, page_of, pages_in}
use Rattle.slab_layer.proofs.Pages.{partial_filled}
use Rattle.slab_layer.proofs.slab_tables.fill_table.Goals as goal

pub returns-then-is_empty-clause-stack : goal.returns-then-is_empty-clause-stack
returns-then-is_empty-clause-stack g c = λ partial out stack.
    let olds = c.args.slabs.now.items in
    let news = c.add_vacant.new.slabs.items in
    let none : length olds ≡ 0 = search rules in
    partial_filled (pages_in olds) (pages_in news) (map page_of olds) (map page_of news) partial out (length-map olds places_of ∙ none) stack (length-map news places_of ∙ c.add_vacant.ensures.all) c.add_vacant.ensures.vacant c.add_vacant.ensures.numbered
