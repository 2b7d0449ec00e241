use Rattle.std.proofs.Common.{◌≡◌, ◌+◌, drop}
use Rattle.std.specs.List.{prefix_len}
use Rattle.ebpf_input.specs.InputFaults.{may_stand}
use Rattle.ebpf_input.proofs.input_faults.place_of_other.Given as goal

abbrev pub invariant-loop-place : goal.invariant-loop-place
invariant-loop-place l = prefix_len (may_stand l.fn.part) l.bytes ≡ l.place + prefix_len (may_stand l.fn.part) (drop l.place l.bytes)
