use Rattle.std.proofs.Common.{◌≡◌, ◌≤◌, take, length}
use Rattle.std.specs.Prelude.{vec_capacity}
use Rattle.ebpf_layout.proofs.layout.copy_of.Given as goal

abbrev pub invariant-loop-slot : goal.invariant-loop-slot
invariant-loop-slot l = record {
  items : l.code.items ≡ take l.slot l.program;
  room : l.slots ≤ vec_capacity l.code;
  all : l.slots ≡ length l.program;
}
