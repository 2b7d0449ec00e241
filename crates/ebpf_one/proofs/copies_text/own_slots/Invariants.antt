use Rattle.std.proofs.Common.{◌≡◌, take}
use Rattle.std.specs.Prelude.{map}
use Rattle.ebpf_input.specs.DataRequest.{own_slot}
use Rattle.ebpf_one.proofs.copies_text.own_slots.Given as goal

abbrev pub invariant-loop-slot : goal.invariant-loop-slot
invariant-loop-slot l = l.own.items ≡ map own_slot (take l.slot-index l.of)
