use Rattle.std.proofs.Common.{◌≡◌, ◌++◌, string_bytes}
use Rattle.ebpf_explain.specs.StackWords.{texts_below}
use Rattle.ebpf_lines.specs.Traced.{WithWays, trace_of}
use Rattle.ebpf_lines.specs.Tracefile.{branch_if, sum_below, ways_at, ways_hit_at}
use Rattle.ebpf_lines.proofs.tracefile.write_branches.Given as goal

abbrev pub invariant-loop-slot : goal.invariant-loop-slot
invariant-loop-slot l =
    (string_bytes l.text ≡ string_bytes l.fn.text ++ texts_below l.slot (branch_if (trace_of l.traced) l.file l.number l.most))
    × WithWays (sum_below l.slot (ways_at (trace_of l.traced) l.file l.number)) (sum_below l.slot (ways_hit_at (trace_of l.traced) l.file l.number)) l.fn.totals l.totals
