use Rattle.std.proofs.Common.{◌≡◌, ◌-◌, length}
use Rattle.ebpf_explain.specs.Loss.{lost_in, lost_within}
use Rattle.ebpf_explain.proofs.loss.lost_in.Given as goal

abbrev pub invariant-loop-step : goal.invariant-loop-step
invariant-loop-step l =
    lost_within l.trace.flowed.now l.trace.entries.items l.register (length l.trace.entries.items - l._step) l.at
    ≡ lost_in l.trace.flowed.now l.trace.entries.items l.register l.slot
