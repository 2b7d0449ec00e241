use Rattle.std.proofs.Common.{ℕ, ◌+◌, ◌≤◌, ◌++◌, ◌∷◌, [], Fits, w64, ◌≡◌, ◌<◌, ◌/◌, ◌⊎◌, ◌∙◌, ap, sym, subst, set, replicate, length, vec_len}
use Rattle.std.proofs.Common.{vec_capacity, arith, rules}
use Rattle.std.proofs.lemmas.List.{length-map}
use Rattle.slab_layer.specs.declared.place.Place.TheVariants.{Home}
use Rattle.slab_layer.specs.Slots.{Has}
use Rattle.slab_layer.specs.SlabTable.{places_of, page_of, pages_in, IsSlabTable}
use Rattle.slab_layer.proofs.Homes.{row_objects}
use Rattle.slab_layer.proofs.Pages.{IsFilled, partial_grown, grown, grown_same, not_had, room_for_all}
use Rattle.slab_layer.proofs.slabs.Slabs.grow.Given.{Over}
use Rattle.slab_layer.proofs.slabs.Slabs.grow.Goals.{After-first-page, After-replace-vacant}
use Rattle.slab_layer.proofs.slabs.Slabs.grow.Goals as goal

-- the table, with its places filled
filled : (g : Over) (c : After-first-page g)
    → IsFilled c.self.inside.slabs.items c.fill_table.new.slabs.items c.reserve_tables.new.partial.items c.self.inside.out c.first-page.result
filled g c =
    let xs = c.fill_table.new.slabs.items in
    let at = c.first-page.result in
    let kept : IsSlabTable c.reserve_tables.new.slabs.items c.reserve_tables.new.partial.items c.self.inside.out =
    rw (c.reserve_tables.ensures.slabs, c.reserve_tables.ensures.partial) c.self.invariant.0 in
    let all : length xs ≡ 256 =
    c.fill_table.ensures.all (subst (λ m. (m ≡ 0) ⊎ (m ≡ 256)) (length-map c.reserve_tables.new.slabs.items places_of) kept.sized) in
    let same = grown_same xs c.reserve_tables.new.slabs.items c.self.inside.slabs.items c.fill_table.ensures.same c.reserve_tables.ensures.slabs in
    let free : Has (pages_in c.self.inside.slabs.items) at → ⊥ =
    subst (λ v. Has v at → ⊥) (sym c.self.view_is) (subst (λ m. Has c.args.self.now m → ⊥) (sym c.first-page.ensures) c.requires.not_had) in
    record {
      stack = c.fill_table.ensures.stack c.reserve_tables.new.partial.items c.self.inside.out kept;
      all = all;
      within = omega (arith, all, c.first-page.ensures, c.args.span.within, c.args.span.some);
      same = same;
      vacant = same at ∙ not_had (pages_in c.self.inside.slabs.items) at free;
    }

-- the slab that comes to its place
new : (g : Over) (c : After-replace-vacant g)
    → (c.replace-vacant.new.dest.places.items ≡ replicate (4096 / g.K.Kind.SIZE) Home) × (c.replace-vacant.new.dest.page ≡ c.first-page.result)
new g c = (ap places_of c.replace-vacant.ensures.after ∙ c.new-2.ensures.places, ap page_of c.replace-vacant.ensures.after ∙ (c.new-2.ensures.page ∙ sym c.first-page.ensures))

-- the table with it
after : (g : Over) (c : After-replace-vacant g)
    → IsFilled c.self.inside.slabs.items c.fill_table.new.slabs.items c.reserve_tables.new.partial.items c.self.inside.out c.first-page.result
    → IsSlabTable (set c.fill_table.new.slabs.items c.first-page.result c.replace-vacant.new.dest) (c.reserve_tables.new.partial.items ++ c.first-page.result ∷ []) c.self.inside.out × (length c.reserve_tables.new.partial.items < length c.fill_table.new.slabs.items)
after g c f =
    let row = row_objects _ g.K.Kind.is_row in
    partial_grown c.fill_table.new.slabs.items c.first-page.result (4096 / g.K.Kind.SIZE) c.self.inside.out c.index_mut.result.now c.replace-vacant.new.dest c.reserve_tables.new.partial.items f.stack f.within c.index_mut.ensures.value f.vacant (new g c).1 (new g c).0 row.0 row.1

-- the stack has room for all pages
room : (g : Over) (c : After-first-page g) → 256 ≤ vec_capacity c.reserve_tables.new.partial
room g c =
    room_for_all (length (pages_in c.self.inside.slabs.items)) (vec_len c.self.inside.slabs) (vec_capacity c.reserve_tables.new.partial) (vec_capacity c.self.inside.partial)
    c.self.invariant.0.sized (length-map c.self.inside.slabs.items places_of ∙ sym c.self.inside.slabs.ok.0) c.in-Ok.ensures.room_open c.self.invariant.1 c.reserve_tables.ensures.capacity

pub push_reserved-requires : goal.push_reserved-requires
push_reserved-requires g c =
    let h = goal.at.push_reserved-requires g c in
    let f = filled g h.After-first-page in
    omega (arith, (after g h.After-replace-vacant f).1, room g h.After-first-page, f.all, c.reserve_tables.new.partial.ok.0)

pub invariant_of-self-2 : goal.invariant_of-self-2
invariant_of-self-2 g c =
    let h = goal.at.invariant_of-self-2 g c in
    let f = filled g h.After-first-page in
    (rw c.push_reserved.ensures.items (after g h.After-replace-vacant f).0, omega (arith, c.push_reserved.ensures.capacity, room g h.After-first-page, f.all, c.fill_table.new.slabs.ok.0))

pub returns-clause-added : goal.returns-clause-added
returns-clause-added g c =
    let h = goal.at.returns-clause-added g c in
    let f = filled g h.After-first-page in
    let row = row_objects _ g.K.Kind.is_row in
    rw (← c.self.view_is, ← c.first-page.ensures) (grown c.fill_table.new.slabs.items (pages_in c.self.inside.slabs.items) c.first-page.result (4096 / g.K.Kind.SIZE) c.replace-vacant.new.dest f.within f.same (new g h.After-replace-vacant).0 row.1)

pub returns-clause-counted : goal.returns-clause-counted
returns-clause-counted g c =
    let h = goal.at.returns-clause-counted g c in
    rw (← c.self.view_is) (sym (after g h.After-replace-vacant (filled g h.After-first-page)).0.counted ∙ c.self.invariant.0.counted)

-- the span's page is in the table
page_fits : (page first len : ℕ) → page ≡ first → 0 < len → first + len ≤ 256 → Fits w64 page
page_fits page first len same some within = search rules

pub overflow_cast-at : goal.overflow_cast-at
overflow_cast-at g c = page_fits c.first-page.result c.args.span.first c.args.span.len c.first-page.ensures c.args.span.some c.args.span.within

pub index_mut-requires : goal.index_mut-requires
index_mut-requires g c = omega (arith, (filled g (goal.at.index_mut-requires g c).After-first-page).within, c.fill_table.new.slabs.ok.0)

pub new-requires-2 : goal.new-requires-2
new-requires-2 g c = c.requires.one_page

pub fill_table-requires : goal.fill_table-requires
fill_table-requires g c none =
    c.in-Ok.ensures.room (c.self.inside.slabs.ok.0 ∙ (sym (ap length c.reserve_tables.ensures.slabs) ∙ (sym c.reserve_tables.new.slabs.ok.0 ∙ none)))
