use Rattle.std.proofs.Common.{◌≡◌, ◌+◌, ◌≤◌, length}
use Rattle.slab_layer.specs.Slots.{Pages, out_count}
use Rattle.homing.specs.Homing.{SendsHome}
use Rattle.homing.proofs.unload.Given as goal

abbrev pub invariant-loop-object : goal.invariant-loop-object
invariant-loop-object g l = record {
  sent : (final : Pages) → SendsHome l.slabs final l.magazine → SendsHome l.initial.slabs final l.initial.magazine;
  few : l.foreign + length l.magazine ≤ l.initial.foreign + length l.initial.magazine;
  counted : out_count l.slabs + l.initial.foreign + length l.initial.magazine ≡ out_count l.initial.slabs + l.foreign + length l.magazine;
}

abbrev pub decreases-loop-object : goal.decreases-loop-object
decreases-loop-object g l = length l.magazine
