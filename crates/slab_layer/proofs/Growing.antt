-- A span that comes and goes: what is out then.
use Rattle.std.proofs.Common.{List, ◌∷◌, refl, arith}
use Rattle.std.specs.List.{Contains}
use Rattle.std.specs.List.Sorted.{IsPermutation}
use Rattle.std.proofs.lemmas.List.Sorted.{sum_by_pushed, Contains-permutation}
use Rattle.vmem_arena.specs.Spans.{Pages, Spans}
use Rattle.slab_layer.specs.Growth.{KeepsOut}

-- what came is there
pub came_in : {X : Type 0} (x : X) (old new : List X) → IsPermutation (x ∷ old) new → Contains new x
came_in x old new moved = Contains-permutation (x ∷ old) new x moved (0, omega arith, refl)

-- a span that was taken and given again: the same spans are out as before
pub went_back : (span : Pages) (before between after : Spans) → IsPermutation (span ∷ before.out) between.out
    → IsPermutation (span ∷ after.out) between.out → KeepsOut before after
went_back span before between after came back weight =
    omega (arith, sum_by_pushed weight span before.out between.out came, sum_by_pushed weight span after.out between.out back)
