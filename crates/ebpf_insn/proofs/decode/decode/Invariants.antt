use Rattle.std.proofs.Common.{◌≡◌, ◌≤◌, ◌/◌, min, false, None, length, vec_capacity}
use Rattle.ebpf_insn.specs.Program.{instructions}
use Rattle.ebpf_insn.specs.Faults.{lowest}
use Rattle.ebpf_insn.specs.Decoding.{fault_at, is_uneven}
use Rattle.ebpf_insn.proofs.ProgramBytes.{IsReadSoFar}
use Rattle.ebpf_insn.proofs.decode.decode.Given as goal

abbrev pub invariant-loop-slot : goal.invariant-loop-slot
invariant-loop-slot l = record {
  even : is_uneven (length l.bytes) ≡ false;
  few : l.slot ≤ 4096;
  room : vec_capacity l.slots ≡ min (length l.bytes / 8) 4096;
  fine : lowest (fault_at l.bytes) l.slot ≡ None;
  read : IsReadSoFar l.bytes l.slot l.slots.items l.is_second_half;
  short : l.len ≤ l.slot;
  len : l.len ≡ length (instructions l.slots.items);
}
