use Rattle.ebpf_state.specs.References.{settled_value}
use Rattle.ebpf_state.specs.declared.value.Abs.TheVariants.{Unset}
use Rattle.ebpf_state.proofs.JoinLists.{IsChanging}
use Rattle.ebpf_state.proofs.state.settle_registers.Given as goal

abbrev pub invariant-loop-i : goal.invariant-loop-i
invariant-loop-i l = IsChanging (settled_value l.fn.call l.fn.null) Unset l.fn.registers l.registers l.i
