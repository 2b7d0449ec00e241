use Rattle.std.proofs.Common.{vec_len}
use Rattle.slab_layer.proofs.slabs.Slabs.end.Given as goal

abbrev pub decreases-loop-slab : goal.decreases-loop-slab
decreases-loop-slab g l = vec_len l.slabs
