use Rattle.std.proofs.Common.{All}
use Rattle.ebpf_unroll.specs.Branches.{IsBranch}
use Rattle.ebpf_unroll.proofs.long_loop.exits_of.Given as goal

abbrev pub invariant-loop-slot : goal.invariant-loop-slot
invariant-loop-slot l = All (λ e. IsBranch l.fn.program e.slot) l.exits.items
