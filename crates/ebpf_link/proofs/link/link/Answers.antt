use Rattle.std.proofs.Common.{◌≡◌, ℤ, List, Option, sym, subst, arith, w16, to_z, of_z, rules}
use Rattle.std.proofs.lemmas.Int.{to_z-of_z}
use Rattle.ebpf_insn.specs.declared.insn.Insn.{Insn}
use Rattle.ebpf_link.specs.Linking.{IsLinked}
use Rattle.ebpf_link.proofs.Slotwise.{so_far_more, all_linked, all_formed}
use Rattle.ebpf_link.proofs.link.link.Goals as goal

pub loop-slot-preserved : goal.loop-slot-preserved
loop-slot-preserved c =
    let i = c.loop-slot.invariant in
    let w = c.in_ok-write_slot.ensures in
    record {
      so_far = so_far_more c.args.program.now c.args.offsets.now c.args.declared _ c.loop-slot.slot
          c.loop-slot.writer.code.items c.write_slot.new.writer.code.items c.loop-slot.writer.count c.write_slot.new.writer.count
          i.so_far (omega (arith, c.loop-slot-test.true, c.slots-slots.ensures.value)) w.code w.written w.fits;
    }

pub new-requires-clause-formed : goal.new-requires-clause-formed
new-requires-clause-formed c =
    all_formed c.args.program.now c.args.offsets.now c.args.declared _ c.loop-slot.slot c.loop-slot.writer.code.items c.loop-slot.writer.count
    c.slots-slots.ensures.formed c.in_ok-check_edges.ensures.led (omega (arith, c.if-slots-ge-MAX_SLOTS.false, c.slots-slots.ensures.value)) c.loop-slot.invariant.so_far
    (omega (arith, c.loop-slot-test.false, c.slots-slots.ensures.value))

pub returns-clause-linked : goal.returns-clause-linked
returns-clause-linked c =
    let back : to_z w16 (of_z w16 c.args.word) ≡ c.args.word = to_z-of_z w16 c.args.word (search rules) in
    let code = c.loop-slot.writer.code.items in
    let l = all_linked c.args.program.now c.args.offsets.now c.args.declared _ c.loop-slot.slot code c.loop-slot.writer.count
    c.slots-slots.ensures.formed c.in_ok-check_edges.ensures.led c.loop-slot.invariant.so_far (omega (arith, c.loop-slot-test.false, c.slots-slots.ensures.value)) in
    subst (λ (q : List (Option Insn)). IsLinked c.args.program.now c.args.offsets.now c.args.declared c.args.word q) (sym c.new.ensures)
    (subst (λ (z : ℤ). IsLinked c.args.program.now c.args.offsets.now c.args.declared z code) back l)
