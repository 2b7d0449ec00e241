use Rattle.std.proofs.Common.{◌+◌, ◌<◌, length, arith}
use Rattle.ebpf_insn.specs.Program.{slots_in}
use Rattle.ebpf_flow.proofs.Next.{next_is_insn}
use Rattle.ebpf_flow.proofs.edges.fall_from.Goals as goal
use Rattle.ebpf_flow.proofs.edges.fall_from.Goals.{else-falls-via-then-falls+else-next-slots, else-falls-via-else-falls}

pub returns-then-falls-2-clause-forward : goal.returns-then-falls-2-clause-forward
returns-then-falls-2-clause-forward c =
    let inside : c.args.slot + slots_in c.args.insn < length c.args.program.now = elim c.else-falls.branch [ else-falls-via-then-falls+else-next-slots w ↦ omega (arith, c.slots.ensures.value, c.slots-slots.ensures.value) | else-falls-via-else-falls w ↦ absurd (cc) ] in
    let next = next_is_insn c.args.program.now c.args.slot c.args.insn c.slots-slots.ensures.formed c.requires.here inside in
    (omega (arith, c.slots.ensures.some), omega (arith, c.slots.ensures.value), rw c.slots.ensures.value next)
