use Rattle.std.proofs.Common.{◌≡◌, ◌++◌, drop, string_bytes}
use Rattle.ebpf_cover.specs.Covered.{executed_at, taken_at}
use Rattle.ebpf_report.specs.CoveredLines.{slots_from}
use Rattle.ebpf_report.proofs.covered_text.write_slots.Given as goal

abbrev pub invariant-loop-slot : goal.invariant-loop-slot
invariant-loop-slot l =
    string_bytes l.text ++ slots_from l.fn.format l.name (executed_at l.counts) (taken_at l.counts) l.slot (drop l.slot l.program)
    ≡ string_bytes l.fn.text ++ slots_from l.fn.format l.name (executed_at l.counts) (taken_at l.counts) 0 l.program
