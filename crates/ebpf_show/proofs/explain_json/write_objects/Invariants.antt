use Rattle.std.proofs.Common.{◌≡◌, ◌++◌, string_bytes}
use Rattle.ebpf_explain.specs.StackWords.{texts_below}
use Rattle.ebpf_show.specs.KnownObjects.{slot_objects}
use Rattle.ebpf_show.proofs.explain_json.write_objects.Given as goal

abbrev pub invariant-loop-slot : goal.invariant-loop-slot
invariant-loop-slot l =
    string_bytes l.text ≡ string_bytes l.fn.text ++ texts_below l.slot (slot_objects l.trace.flowed.now l.trace.entries.items l.trace.kinds.now)
