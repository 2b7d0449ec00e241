use Rattle.std.proofs.Common.{◌≡◌, ◌++◌, take, string_bytes}
use Rattle.std.specs.List.{flat_map}
use Rattle.ebpf_report.specs.WorldLines.{run_emit_line}
use Rattle.ebpf_report.proofs.world_lines.write_output.Given as goal

abbrev pub invariant-loop-value : goal.invariant-loop-value
invariant-loop-value l = string_bytes l.text ≡ string_bytes l.fn.text ++ flat_map (run_emit_line l.fn.run) (take l.value-index l.output)
