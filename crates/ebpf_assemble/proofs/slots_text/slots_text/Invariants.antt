use Rattle.std.proofs.Common.{◌≡◌, ◌++◌, string_bytes}
use Rattle.std.specs.Slice.Iter.{chunks_rest, chunks_size}
use Rattle.ebpf_assemble.specs.SlotsText.{slot_lines}
use Rattle.ebpf_assemble.proofs.slots_text.slots_text.Given as goal

abbrev pub invariant-loop-slot : goal.invariant-loop-slot
invariant-loop-slot l =
    goal.iterator-loop-slot.can_next l.slot-iterator
    × goal.iterator-loop-slot.is_finite l.slot-iterator
    × (chunks_size l.slot-iterator ≡ 8)
    × (string_bytes l.text ++ slot_lines (chunks_rest l.slot-iterator) ≡ slot_lines l.fn.bytes)
