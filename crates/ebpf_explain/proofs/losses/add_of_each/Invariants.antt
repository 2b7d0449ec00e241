use Rattle.std.proofs.Common.{◌≡◌, ◌++◌, take, map}
use Rattle.ebpf_explain.specs.Losses.{lost_from}
use Rattle.ebpf_explain.proofs.losses.add_of_each.Given as goal

abbrev pub invariant-loop-comer : goal.invariant-loop-comer
invariant-loop-comer l = l.losses.items ≡ l.fn.losses.items ++ map (lost_from l.places l.to) (take l.comer-index l.comers)
