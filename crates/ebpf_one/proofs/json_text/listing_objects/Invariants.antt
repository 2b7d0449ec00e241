use Rattle.std.proofs.Common.{◌≡◌, string_bytes}
use Rattle.ebpf_explain.specs.StackWords.{texts_below}
use Rattle.ebpf_insn.specs.Program.{insn_at}
use Rattle.ebpf_one.specs.Formats.{object_at}
use Rattle.ebpf_one.proofs.json_text.listing_objects.Given as goal

abbrev pub invariant-loop-slot : goal.invariant-loop-slot
invariant-loop-slot l = string_bytes l.text ≡ texts_below l.slot (λ slot. object_at slot (insn_at l.program slot))
