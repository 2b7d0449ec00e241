use Rattle.std.proofs.Common.{◌≡◌, ◌++◌, string_bytes}
use Rattle.ebpf_explain.specs.Slots.{slot_lines}
use Rattle.ebpf_explain.specs.StackWords.{texts_below}
use Rattle.ebpf_explain.proofs.slots.write_slots.Given as goal

abbrev pub invariant-loop-slot : goal.invariant-loop-slot
invariant-loop-slot l =
    string_bytes l.text ≡ string_bytes l.fn.text ++ texts_below l.slot (slot_lines l.trace.flowed.now l.trace.entries.items l.trace.kinds.now)
