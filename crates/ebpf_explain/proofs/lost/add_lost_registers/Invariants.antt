use Rattle.std.proofs.Common.{◌≡◌, ◌++◌, take}
use Rattle.std.specs.List.{flat_map}
use Rattle.ebpf_explain.specs.Lost.{lost_among}
use Rattle.ebpf_explain.specs.declared.lost.Place.TheVariants.{Register}
use Rattle.ebpf_explain.proofs.lost.add_lost_registers.Given as goal

abbrev pub invariant-loop-register : goal.invariant-loop-register
invariant-loop-register l =
    l.places.items ≡ l.fn.places.items ++ flat_map (λ r. lost_among l.comers l.joined (Register r)) (take l.register-index l.registers)
