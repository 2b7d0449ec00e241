use Rattle.std.proofs.Common.{◌-◌, length}
use Rattle.ebpf_insn.specs.Program.{instructions}
use Rattle.ebpf_cover.specs.Answering.{answering}
use Rattle.ebpf_cover.specs.Stretches.{IsTally, executed_so_far, taken_so_far}
use Rattle.ebpf_cover.proofs.Counting.{IsCounted}
use Rattle.ebpf_cover.proofs.cover.count_run.Given as goal

abbrev pub invariant-counting : goal.invariant-counting
invariant-counting l =
    let p = l.fn.verified.program in record {
      tally : IsTally p l.tally;
      counted : IsCounted answering l.initial.store l.store l.fn.verified l.fn.context l.run (executed_so_far p l.fn.tally) (taken_so_far l.fn.tally) (executed_so_far p l.tally) (taken_so_far l.tally);
    }

abbrev pub decreases-counting : goal.decreases-counting
decreases-counting l = length (instructions l.fn.verified.program) - l.run.executed
