use Rattle.std.proofs.Common.{◌≡◌, ◌++◌, string_bytes}
use Rattle.ebpf_core.specs.Readers.{shelf_in}
use Rattle.ebpf_core.specs.Shown.{OfWorld}
use Rattle.ebpf_report.specs.Below.{below}
use Rattle.ebpf_report.specs.WorldLines.{shelf_line}
use Rattle.ebpf_report.proofs.world_text.write_shelves.Given as goal

abbrev pub invariant-loop-shelf : goal.invariant-loop-shelf
invariant-loop-shelf l = OfWorld l.world (λ w. string_bytes l.text ≡ string_bytes l.fn.text ++ below (λ shelf. shelf_line l.format shelf (shelf_in w shelf)) l.shelf)
