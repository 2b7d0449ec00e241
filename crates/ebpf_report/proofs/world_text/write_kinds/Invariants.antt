use Rattle.std.proofs.Common.{◌≡◌, ◌++◌, string_bytes}
use Rattle.ebpf_core.specs.Shown.{OfWorld}
use Rattle.ebpf_report.specs.Below.{below}
use Rattle.ebpf_report.specs.WorldLines.{kind_line}
use Rattle.ebpf_report.proofs.world_text.write_kinds.Given as goal

abbrev pub invariant-loop-kind : goal.invariant-loop-kind
invariant-loop-kind l = OfWorld l.world (λ w. string_bytes l.text ≡ string_bytes l.fn.text ++ below (kind_line l.format w) l.kind)
