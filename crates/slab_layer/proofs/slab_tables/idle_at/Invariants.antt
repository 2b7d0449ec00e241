use Rattle.std.specs.List.{AllWithin}
use Rattle.slab_layer.specs.SlabTable.{IsBusy}
use Rattle.slab_layer.proofs.slab_tables.idle_at.Given as goal

abbrev pub invariant-loop-i : goal.invariant-loop-i
invariant-loop-i g l = AllWithin IsBusy l.slabs 0 l.i
