use Rattle.std.proofs.Common.{◌≡◌}
use Rattle.ebpf_verify.specs.Comers.{comers_below}
use Rattle.ebpf_verify.proofs.comers.comers_to.Given as goal

abbrev pub invariant-loop-from : goal.invariant-loop-from
invariant-loop-from l = l.comers.items ≡ comers_below l.fn.trace.flowed.now l.from l.fn.to
