use Rattle.std.proofs.Common.{length, vec_len}
use Rattle.magazine.specs.LayerView.{rounds_of}
use Rattle.shared_cache.proofs.rack.Rack.drop.Given as goal

abbrev pub decreases-loop-object : goal.decreases-loop-object
decreases-loop-object g l = length (rounds_of l.layer)

abbrev pub decreases-loop-object-2 : goal.decreases-loop-object-2
decreases-loop-object-2 g l = vec_len l.aside
