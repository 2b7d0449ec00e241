use Rattle.std.proofs.Common.{◌≡◌, ◌≤◌, length}
use Rattle.std.specs.Prelude.{vec_capacity}
use Rattle.ebpf_layout.specs.Writing.{AreOwn}
use Rattle.ebpf_layout.proofs.copied.own_slots.Given as goal

abbrev pub invariant-loop-slot : goal.invariant-loop-slot
invariant-loop-slot l = record {
  own : AreOwn l.program l.of.items;
  long : length l.of.items ≡ l.slot;
  room : l.slots ≤ vec_capacity l.of;
  all : l.slots ≡ length l.program;
}
