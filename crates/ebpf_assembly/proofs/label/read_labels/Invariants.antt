use Rattle.std.proofs.Common.{◌≡◌, ◌≤◌, ◌++◌, length, drop}
use Rattle.ebpf_assembly.specs.Lines.{text_lines}
use Rattle.ebpf_assembly.specs.Labels.{names_of}
use Rattle.ebpf_assembly.specs.Names.{labels_from}
use Rattle.ebpf_assembly.proofs.label.read_labels.Given as goal

abbrev pub invariant-loop-line : goal.invariant-loop-line
invariant-loop-line l = record {
  few : l.slot ≤ 4098;
  rest : names_of l.labels.items ++ labels_from l.slot (drop (length l.yielded) (text_lines l.text)) ≡ labels_from 0 (text_lines l.text);
}
