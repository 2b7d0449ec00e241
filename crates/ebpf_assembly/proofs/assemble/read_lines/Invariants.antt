use Rattle.std.proofs.Common.{◌≡◌, ◌≤◌, length, take}
use Rattle.ebpf_assembly.specs.Lines.{text_lines}
use Rattle.ebpf_assembly.proofs.Drafts.{IsDraft}
use Rattle.ebpf_assembly.proofs.assemble.read_lines.Given as goal

abbrev pub invariant-loop-line : goal.invariant-loop-line
invariant-loop-line l = record {
  number : l.number ≡ length l.yielded;
  few : length l.slots.items ≤ 4096;
  draft : IsDraft (take l.number (text_lines l.text)) l.slots.items l.len;
}
