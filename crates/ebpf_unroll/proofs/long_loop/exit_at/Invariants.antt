use Rattle.std.proofs.Common.{◌≡◌, IfSome}
use Rattle.ebpf_unroll.proofs.long_loop.exit_at.Given as goal

abbrev pub invariant-loop-visit : goal.invariant-loop-visit
invariant-loop-visit l = IfSome l.exit (λ e. e.slot ≡ l.fn.slot)
