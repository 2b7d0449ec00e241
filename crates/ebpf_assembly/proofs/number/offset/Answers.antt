use Rattle.std.proofs.lemmas.Int.{to_z-of_z}
use Rattle.std.specs.Int.{w32}
use Rattle.ebpf_assembly.proofs.Numbers.{narrowed}
use Rattle.ebpf_assembly.proofs.number.offset.Goals as goal

pub returns : goal.returns
returns c =
    rw c.ok.ensures.value (narrowed _ c.in_ok-far_offset.field-0 _ c.try_from.result c.in_ok-far_offset.ensures.0
    (to_z-of_z w32 _ c.in_ok-far_offset.ensures.0) c.in_ok-far_offset.ensures.1 c.try_from.ensures)
