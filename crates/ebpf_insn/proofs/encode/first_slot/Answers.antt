use Rattle.std.proofs.Common.{ap, ◌∙◌}
use Rattle.ebpf_insn.specs.Opcodes.{opcode_of}
use Rattle.ebpf_insn.specs.Encoding.{first_slot}
use Rattle.ebpf_insn.proofs.SlotBytes.{same_slot}
use Rattle.ebpf_insn.proofs.ToSlots.{insn_form_again, same_opcode}
use Rattle.ebpf_insn.proofs.encode.first_slot.Goals as goal

pub opcode_of-requires : goal.opcode_of-requires
opcode_of-requires c = rw c.form_of_insn.ensures (insn_form_again c.args.insn c.requires)

pub returns : goal.returns
returns c =
    same_slot _ (first_slot c.args.insn) (c.opcode_of.ensures ∙ ap opcode_of c.form_of_insn.ensures ∙ same_opcode c.args.insn)
    c.dst_of.ensures.value c.src_of.ensures.value c.offset_of.ensures c.imm_of.ensures
