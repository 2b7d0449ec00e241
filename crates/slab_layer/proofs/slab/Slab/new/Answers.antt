use Rattle.std.proofs.Common.{ℕ, ◌<◌, ◌≤◌, Fits, w32, Some, ◌≡◌, ◌+◌, ◌*◌, ◌∷◌, [], ◌++◌, ◌∙◌, ap, map, length, vec_len, rules, arith}
use Rattle.std.proofs.lemmas.List.{length-map, map_push, length-replicate, replicate_more}
use Rattle.std.proofs.lemmas.List.Elements.{All-pop}
use Rattle.slab_layer.specs.declared.place.Place.TheVariants.{Home}
use Rattle.slab_layer.specs.Slots.{is_home}
use Rattle.slab_layer.proofs.Selecting.{length-selected-le}
use Rattle.slab_layer.proofs.Homes.{pushed}
use Rattle.slab_layer.proofs.slab.Slab.new.Goals as goal

pub push_reserved-requires : goal.push_reserved-requires
push_reserved-requires g c =
    let l = c.loop-index in
    let len : vec_len l.home ≡ length l.home.items = l.home.ok.0 in
    let e = length-map l.home.items (λ o. o.slot) in
    let f = l.invariant.stacked.count in
    let h = length-selected-le is_home l.places.items (c.first-page.result * 256) in
    let n = ap length l.invariant.places ∙ length-replicate l.index Home in
    omega (arith, l.invariant.left, l.invariant.few_home)

pub loop-index-preserved : goal.loop-index-preserved
loop-index-preserved g c =
    let l = c.loop-index in
    let wide = ap length l.invariant.places ∙ length-replicate l.index Home in
    let place : c.first-page.result * 256 + l.index ≡ c.first-page.result * 256 + length l.places.items = omega arith in
    record {
      each = (All-pop (λ b. length b.value.items ≡ g.K.Kind.SIZE) _ _ _ c.pop.ensures.items l.invariant.each).0;
      left = omega (arith, c.in-Some.ensures.cases, l.invariant.left);
      places = c.push_reserved-in-loop-index.ensures.items ∙ (ap (λ r. r ++ Home ∷ []) l.invariant.places ∙ replicate_more l.index Home);
      few_places = omega (arith, c.push_reserved-in-loop-index.ensures.capacity, l.invariant.few_places);
      few_home = omega (arith, c.push_reserved.ensures.capacity, l.invariant.few_home);
      stacked = rw (c.push_reserved.ensures.items, c.push_reserved-in-loop-index.ensures.items, map_push (λ o. o.slot) l.home.items c.new.result, c.new.ensures)
          (pushed (map (λ o. o.slot) l.home.items) (c.first-page.result * 256) (c.first-page.result * 256 + l.index) l.places.items l.invariant.stacked place);
    }

pub new-requires-clause-sized : goal.new-requires-clause-sized
new-requires-clause-sized g c = (All-pop (λ b. length b.value.items ≡ g.K.Kind.SIZE) _ _ (Some c.in-Some.own) c.in-Some.ensures.items c.loop-index.invariant.each).1

-- an object's slot, from its page and its index
page_low : (page first len : ℕ) → page ≡ first → 0 < len → first + len ≤ 256 → page < 256
page_low page first len same some within = omega arith

index_low : (index count : ℕ) → index < count → count ≤ 256 → index < 256
index_low index count below most = omega arith

slot_low : (page index : ℕ) → page < 256 → index < 256 → page * 256 + index < 65536
slot_low page index a b = omega arith

base_fits : (page : ℕ) → page < 256 → Fits w32 (page * 256)
base_fits page low = search rules

index_fits : (index : ℕ) → index < 256 → Fits w32 index
index_fits index low = search rules

slot_fits : (page index : ℕ) → page < 256 → index < 256 → Fits w32 (page * 256 + index)
slot_fits page index a b = search rules

pub overflow_mul-page : goal.overflow_mul-page
overflow_mul-page g c = base_fits c.first-page.result (page_low _ _ _ c.first-page.ensures c.args.span.some c.args.span.within)

pub overflow_cast-index : goal.overflow_cast-index
overflow_cast-index g c = index_fits c.loop-index.index (index_low _ _ c.loop-index-test.true c.objects_of_a_page-index-end.ensures.most)

pub overflow_add-page : goal.overflow_add-page
overflow_add-page g c = slot_fits c.first-page.result c.loop-index.index (page_low _ _ _ c.first-page.ensures c.args.span.some c.args.span.within) (index_low _ _ c.loop-index-test.true c.objects_of_a_page-index-end.ensures.most)

pub new-requires-clause-placed : goal.new-requires-clause-placed
new-requires-clause-placed g c = slot_low c.first-page.result c.loop-index.index (page_low _ _ _ c.first-page.ensures c.args.span.some c.args.span.within) (index_low _ _ c.loop-index-test.true c.objects_of_a_page-index-end.ensures.most)

pub push_reserved-requires-in-loop-index : goal.push_reserved-requires-in-loop-index
push_reserved-requires-in-loop-index g c =
    let l = c.loop-index in
    has_room _ _ l.index c.objects_of_a_page-index-end.result _ _ l.places.ok.0 (ap length l.invariant.places ∙ length-replicate l.index Home) c.loop-index-test.true c.objects_of_a_page-index-end.ensures.value l.invariant.few_places
  where
    has_room : (len there index count objects capacity : ℕ) → len ≡ there → there ≡ index → index < count → count ≡ objects
        → objects ≤ capacity → len < capacity
    has_room len there index count objects capacity a b below e few = omega arith
