use Rattle.std.proofs.Common.{false}
use Rattle.ebpf_state.specs.References.{tested_reference}
use Rattle.ebpf_state.proofs.JoinLists.{IsChanging}
use Rattle.ebpf_state.proofs.held.mark_tested.Given as goal

abbrev pub invariant-loop-i : goal.invariant-loop-i
invariant-loop-i l = IsChanging (tested_reference l.fn.call) (record { call = 0; kind = 0; tested = false }) l.fn.held.items l.held.items l.i
