use Rattle.ebpf_link.specs.Choice.{wanted, IsTried}
use Rattle.ebpf_link.proofs.choice.linked.Given as goal

abbrev pub invariant-loop-number : goal.invariant-loop-number
invariant-loop-number l = record {
  tried : IsTried (wanted l.fn.program l.fn.offsets l.fn.declared l.fn.decl l.fn.kinds) l.number l.refused;
}
