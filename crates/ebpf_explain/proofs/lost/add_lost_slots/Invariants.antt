use Rattle.std.proofs.Common.{◌≡◌, ◌++◌}
use Rattle.ebpf_explain.specs.Lost.{slots_lost}
use Rattle.ebpf_explain.proofs.lost.add_lost_slots.Given as goal

abbrev pub invariant-loop-number : goal.invariant-loop-number
invariant-loop-number l = l.places.items ≡ l.fn.places.items ++ slots_lost l.comers l.joined l.number
