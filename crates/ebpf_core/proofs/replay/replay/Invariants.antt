use Rattle.ebpf_core.proofs.Underway.{IsUnderway}
use Rattle.ebpf_core.proofs.replay.replay.Given as goal

abbrev pub invariant-loop-index : goal.invariant-loop-index
invariant-loop-index l = IsUnderway l.programs l.events l.index l.world
