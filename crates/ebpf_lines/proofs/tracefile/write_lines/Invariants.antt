use Rattle.std.proofs.Common.{◌≡◌, ◌<◌, ◌+◌, ◌-◌, ◌++◌, string_bytes}
use Rattle.ebpf_explain.specs.StackWords.{texts_below}
use Rattle.ebpf_lines.specs.Traced.{AreTotals, trace_of}
use Rattle.ebpf_lines.specs.Tracefile.{hit_in, lines_in, records_in, sum_below, ways_hit_in, ways_in}
use Rattle.ebpf_lines.proofs.tracefile.write_lines.Given as goal

abbrev pub decreases-loop-line : goal.decreases-loop-line
decreases-loop-line l = 4294967295 - l.above

abbrev pub invariant-loop-line : goal.invariant-loop-line
invariant-loop-line l =
    (l.above < 4294967296)
    × (string_bytes l.text ≡ string_bytes l.fn.text ++ texts_below (l.above + 1) (records_in (trace_of l.traced) l.file))
    × AreTotals (sum_below (l.above + 1) (lines_in (trace_of l.traced) l.file)) (sum_below (l.above + 1) (hit_in (trace_of l.traced) l.file))
    (sum_below (l.above + 1) (ways_in (trace_of l.traced) l.file)) (sum_below (l.above + 1) (ways_hit_in (trace_of l.traced) l.file)) l.totals
