use Rattle.std.proofs.Common.{◌≡◌, ◌++◌, take, string_bytes}
use Rattle.std.specs.List.{flat_map}
use Rattle.ebpf_input.specs.Lines.{accepted_line}
use Rattle.ebpf_one.specs.Lines.{emit_line}
use Rattle.ebpf_one.proofs.text.write_run_lines.Given as goal

abbrev pub invariant-loop-value : goal.invariant-loop-value
invariant-loop-value l = string_bytes l.text ≡ (string_bytes l.fn.text ++ accepted_line l.fn.len) ++ flat_map emit_line (take l.value-index l.output)
