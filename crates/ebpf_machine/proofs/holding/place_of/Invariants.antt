use Rattle.ebpf_machine.proofs.Instructions.Places.{NoneBefore}
use Rattle.ebpf_machine.proofs.holding.place_of.Given as goal

abbrev pub invariant-places : goal.invariant-places
invariant-places g l = NoneBefore l.held l.place l.call
