use Rattle.std.proofs.Common.{◌≡◌, ◌++◌, get_or, string_bytes}
use Rattle.ebpf_explain.specs.StackWords.{texts_below}
use Rattle.ebpf_lines.specs.LineCounts.{file_begun}
use Rattle.ebpf_lines.specs.SourceText.{file_if}
use Rattle.ebpf_lines.proofs.source_text.write_files.Given as goal

abbrev pub invariant-loop-slot : goal.invariant-loop-slot
invariant-loop-slot l =
    string_bytes l.text ≡ string_bytes l.fn.text ++ texts_below l.slot (λ slot.
    file_if l.format l.counted.name.now l.counted.lines l.counted.holding.now (λ k. get_or l.counted.executed.now k 0) (file_begun l.counted.holding.now slot))
