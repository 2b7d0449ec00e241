use Rattle.std.proofs.Common.{◌≡◌, ◌+◌, ◌≤◌, length}
use Rattle.slab_layer.specs.Slots.{out_count}
use Rattle.shared_cache.proofs.closing.take_in.Given as goal

abbrev pub invariant-loop-magazine : goal.invariant-loop-magazine
invariant-loop-magazine g l = record {
  few : l.foreign + length l.depot.rounds ≤ l.initial.foreign + length l.initial.depot.rounds;
  counted : out_count l.slabs + l.initial.foreign + length l.initial.depot.rounds ≡ out_count l.initial.slabs + l.foreign + length l.depot.rounds;
}

abbrev pub decreases-loop-magazine : goal.decreases-loop-magazine
decreases-loop-magazine g l = length l.depot.rounds
