use Rattle.std.proofs.Common.{◌≡◌, ◌<◌, ◌+◌, ◌-◌, ◌++◌, get_or, string_bytes}
use Rattle.ebpf_explain.specs.StackWords.{texts_below}
use Rattle.ebpf_lines.specs.SourceText.{numbered}
use Rattle.ebpf_lines.proofs.source_text.write_numbered.Given as goal

abbrev pub decreases-loop-line : goal.decreases-loop-line
decreases-loop-line l = 4294967295 - l.above

abbrev pub invariant-loop-line : goal.invariant-loop-line
invariant-loop-line l =
    (l.above < 4294967296)
    × (string_bytes l.text ≡ string_bytes l.fn.text ++ texts_below (l.above + 1) (numbered l.format l.name l.lines l.holding (λ k. get_or l.executed k 0) l.file))
