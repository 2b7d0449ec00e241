use Rattle.std.proofs.Common.{◌≡◌, ◌++◌, string_bytes}
use Rattle.ebpf_explain.specs.StackWords.{texts_below}
use Rattle.ebpf_lines.specs.LineCounts.{file_begun}
use Rattle.ebpf_lines.specs.Traced.{trace_of}
use Rattle.ebpf_lines.specs.Tracefile.{file_section}
use Rattle.ebpf_lines.proofs.tracefile.write_sections.Given as goal

abbrev pub invariant-loop-slot : goal.invariant-loop-slot
invariant-loop-slot l =
    string_bytes l.text ≡ string_bytes l.fn.text ++ texts_below l.slot (λ slot. file_section (trace_of l.traced) slot (file_begun l.traced.holding.now slot))
