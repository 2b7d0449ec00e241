use Rattle.std.proofs.Common.{◌≡◌, ◌≤◌, ◌++◌, length, drop}
use Rattle.ebpf_assembly.specs.Lines.{text_lines}
use Rattle.ebpf_assembly.specs.Labels.{names_of}
use Rattle.ebpf_assembly.specs.Names.{plain_lines}
use Rattle.ebpf_assembly.proofs.plain.plain_lines.Given as goal

abbrev pub invariant-loop-line : goal.invariant-loop-line
invariant-loop-line l = record {
  few : l.slot ≤ 4098;
  rest : l.plain.items ++ plain_lines (names_of l.labels) l.slot (drop (length l.yielded) (text_lines l.text))
      ≡ plain_lines (names_of l.labels) 0 (text_lines l.text);
}
