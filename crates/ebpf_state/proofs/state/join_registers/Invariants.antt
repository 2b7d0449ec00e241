use Rattle.ebpf_state.specs.Abstract.{joined_value}
use Rattle.ebpf_state.specs.declared.value.Abs.TheVariants.{Unset}
use Rattle.ebpf_state.proofs.JoinLists.{IsJoining}
use Rattle.ebpf_state.proofs.state.join_registers.Given as goal

abbrev pub invariant-loop-i : goal.invariant-loop-i
invariant-loop-i l = IsJoining joined_value Unset l.fn.left l.fn.right l.left l.i
