use Rattle.std.proofs.Common.{◌≡◌, ◌+◌, ◌*◌, ◌∷◌, refl, sym, subst}
use Rattle.std.specs.List.Sorted.{IsPermutation}
use Rattle.vmem_arena.specs.Spans.{pages_of, AreFree}
use Rattle.slab_layer.proofs.Homes.{row_objects}
use Rattle.slab_layer.proofs.Growing.{came_in, went_back}
use Rattle.slab_layer.proofs.slabs.Slabs.grow_from.Goals as goal

pub returns-then-has-clause-unchanged : goal.returns-then-has-clause-unchanged
returns-then-has-clause-unchanged g c =
    let span = pages_of c.in-Ok.span in
    let before = c.args.arena.now in
    let between = c.take.new.self in
    let came = c.in-Ok.ensures.out in
    (refl, went_back span before between c.give.new.self came (c.give.ensures.back (c.give.ensures.known.1 (came_in span before.out between.out came))))

pub returns-in-Ok-grow-clause-home : goal.returns-in-Ok-grow-clause-home
returns-in-Ok-grow-clause-home g c = (c.in-Ok.span.first * 256 + 0, c.in-Ok-grow.ensures.added.added 0 (row_objects _ g.K.Kind.is_row).0)

pub returns-in-Err-clause-unchanged : goal.returns-in-Err-clause-unchanged
returns-in-Err-clause-unchanged g c =
    let span = pages_of c.in-Err.back in
    let before = c.args.arena.now in
    let between = c.take.new.self in
    let same : pages_of c.in-Err.back ≡ pages_of c.in-Ok.span = c.in-Err.ensures.returned in
    let came : IsPermutation (span ∷ before.out) between.out = rw same c.in-Ok.ensures.out in
    (c.in-Err.ensures.unchanged, went_back span before between c.give-in-Err.new.self came (c.give-in-Err.ensures.back (c.give-in-Err.ensures.known.1 (came_in span before.out between.out came))))

pub returns-in_default-clause-no_page : goal.returns-in_default-clause-no_page
returns-in_default-clause-no_page g c = λ _ _. c.in_default.ensures.none

pub returns-then-has-clause-no_page : goal.returns-then-has-clause-no_page
returns-then-has-clause-no_page g c =
    λ _ held _ _. held c.first.result (subst (λ page. AreFree c.args.arena.now page 1) (sym c.first.ensures) c.in-Ok.ensures.free) (c.if-has.ensures.0 refl)

pub returns-in-Ok-grow-clause-no_page : goal.returns-in-Ok-grow-clause-no_page
returns-in-Ok-grow-clause-no_page g c = λ wrong _ _ _. let never : ⊥ = cc in never

pub returns-in-Err-clause-no_page : goal.returns-in-Err-clause-no_page
returns-in-Err-clause-no_page g c = λ wrong _ _ _. let never : ⊥ = cc in never

pub returns-in-Err-clause-memory : goal.returns-in-Err-clause-memory
returns-in-Err-clause-memory g c = λ _. (c.in-Ok.span.first, c.in-Ok.ensures.free)
