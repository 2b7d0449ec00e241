use Rattle.std.proofs.Common.{◌≡◌, string_bytes}
use Rattle.ebpf_one.specs.SourceText.{sourced_below}
use Rattle.ebpf_one.proofs.source_list.sourced.Given as goal

abbrev pub invariant-loop-slot : goal.invariant-loop-slot
invariant-loop-slot l = string_bytes l.text ≡ sourced_below l.format l.lines l.holding l.program l.slot
