use Rattle.std.proofs.Common.{refl}
use Rattle.ebpf_explain.proofs.TextLemmas.{no_text, one_text}
use Rattle.ebpf_lines.specs.Traced.{trace_of}
use Rattle.ebpf_lines.specs.Tracefile.{ways_at, ways_hit_at}
use Rattle.ebpf_lines.proofs.Sums.{no_ways, more_ways}
use Rattle.ebpf_lines.proofs.tracefile.write_branches.Goals as goal

pub loop-slot-init : goal.loop-slot-init
loop-slot-init c =
    let t = trace_of c.args.traced in
    (no_text _ _, no_ways (ways_at t c.args.file c.args.number) (ways_hit_at t c.args.file c.args.number) _)

pub loop-slot-preserved : goal.loop-slot-preserved
loop-slot-preserved c =
    let t = trace_of c.args.traced in (
      one_text _ _ _ _ _ _ refl c.loop-slot.invariant.0 c.in_ok-write_branch_at.ensures.text,
      more_ways (ways_at t c.args.file c.args.number) (ways_hit_at t c.args.file c.args.number) c.loop-slot.slot _ _ _ c.loop-slot.invariant.1 c.in_ok-write_branch_at.ensures.totals,
    )
