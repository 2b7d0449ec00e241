use Rattle.std.proofs.Common.{◌≡◌, ◌∷◌, map}
use Rattle.std.specs.Prelude.{None, Some}
use Rattle.std.specs.List.{range_with_len}
use Rattle.ebpf_show.proofs.copies.linked_slots.Given as goal

abbrev pub invariant-loop-slot : goal.invariant-loop-slot
invariant-loop-slot l = l.of.items ≡ None ∷ map Some (range_with_len 0 l.slot)
