use Rattle.std.proofs.Common.{◌≡◌, ◌≤◌, length, take}
use Rattle.std.specs.List.{flat_map}
use Rattle.ebpf_insn.specs.Program.{instructions}
use Rattle.ebpf_insn.specs.Encoding.{encoding, IsWellFormed}
use Rattle.ebpf_insn.proofs.encode.encode.Given as goal

abbrev pub invariant-loop-slot : goal.invariant-loop-slot
invariant-loop-slot l = record {
  formed : IsWellFormed l.program;
  end : l.slot-end ≡ length l.program;
  few : l.slot ≤ length l.program;
  written : l.bytes.items ≡ flat_map encoding (instructions (take l.slot l.program));
}
