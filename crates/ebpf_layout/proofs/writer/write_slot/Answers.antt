use Rattle.std.proofs.Common.{sym}
use Rattle.ebpf_insn.proofs.ProgramLemmas.{defined_at}
use Rattle.ebpf_layout.proofs.WritingSlots.{IsNext, placed_fall, placed_jump, slot_fits, slot_written}
use Rattle.ebpf_layout.proofs.writer.write_slot.Goals.{In-Some}
use Rattle.ebpf_layout.proofs.writer.write_slot.Goals as goal

pub write_insn-requires-clause-defined : goal.write_insn-requires-clause-defined
write_insn-requires-clause-defined c =
    defined_at c.args.program.now c.args.slot c.in-Some.insn.now c.requires.order.formed.defined (sym c.in-Some.ensures)

-- the instruction of the slot is the next to be written
next : (c : In-Some)
    → IsNext c.args.program.now c.args.order.now.marks.items c.args.order.now.slots.items
    c.args.writer.now.places.items c.args.writer.now.code.items c.args.writer.now.count c.args.slot c.in-Some.insn.now
next c = record {
  ordered = c.requires.order;
  neighbours = c.requires.neighbours;
  fine = c.requires.fine;
  here = c.requires.here;
  owned = sym c.in-Some.ensures;
  writing = c.requires.written;
}

pub write_insn-requires-clause-fall : goal.write_insn-requires-clause-fall
write_insn-requires-clause-fall c =
    rw c.fall_of-fall.ensures (placed_fall _ _ _ _ _ _ c.args.slot c.in-Some.insn.now (next (goal.at.write_insn-requires-clause-fall c).In-Some))

pub write_insn-requires-clause-jump : goal.write_insn-requires-clause-jump
write_insn-requires-clause-jump c =
    rw c.jump_of-jump.ensures (placed_jump _ _ _ _ _ _ c.args.slot c.in-Some.insn.now (next (goal.at.write_insn-requires-clause-jump c).In-Some))

pub write_insn-requires-clause-room : goal.write_insn-requires-clause-room
write_insn-requires-clause-room c =
    slot_fits _ _ _ _ _ _ c.args.slot c.in-Some.insn.now (next (goal.at.write_insn-requires-clause-room c).In-Some)

pub returns-clause-written : goal.returns-clause-written
returns-clause-written c =
    let done = c.in_ok-write_insn-in-Some.ensures in
    let writes = rw (c.fall_of-fall.ensures, c.jump_of-jump.ensures) at done.written in
    rw done.places.2
    (slot_written _ _ _ _ _ _ c.args.slot c.in-Some.insn.now c.write_insn.new.writer.code.items c.write_insn.new.writer.count done.places.0
    (next (goal.at.returns-clause-written c).In-Some) done.code writes done.places.1)
