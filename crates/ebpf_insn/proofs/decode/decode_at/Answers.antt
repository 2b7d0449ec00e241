use Rattle.std.proofs.Common.{◌≡◌, ◌*◌, drop, arith, ap, ◌∙◌}
use Rattle.std.proofs.lemmas.List.{take_rest}
use Rattle.std.proofs.lemmas.Result.{IfOk-weaker, MatchResult-weaker}
use Rattle.ebpf_insn.specs.Slot.{slot_at}
use Rattle.ebpf_insn.specs.Decoding.{second_at}
use Rattle.ebpf_insn.proofs.ProgramBytes.{encoding_at, place_fault_is}
use Rattle.ebpf_insn.proofs.decode.decode_at.Goals as goal

pub returns-clause-found : goal.returns-clause-found
returns-clause-found c =
    let rest = take_rest c.args.bytes.now (8 * c.args.slot) in
    let first : c.read_slot.result ≡ slot_at (drop (8 * c.args.slot) c.args.bytes.now) = c.read_slot.ensures ∙ ap slot_at rest in
    IfOk-weaker c.decode_slot.result _ _ (λ i h. (h.0, encoding_at c.args.bytes.now c.args.slot i c.read_slot.result _ (λ k. omega (arith, c.type_inv.bytes k)) c.requires.room first (ap second_at rest) h.1)) c.decode_slot.ensures.found

pub returns-clause-fault : goal.returns-clause-fault
returns-clause-fault c =
    let rest = take_rest c.args.bytes.now (8 * c.args.slot) in
    let first : c.read_slot.result ≡ slot_at (drop (8 * c.args.slot) c.args.bytes.now) = c.read_slot.ensures ∙ ap slot_at rest in
    MatchResult-weaker c.decode_slot.result c.decode_slot.ensures.fault
    (λ i h. place_fault_is c.args.bytes.now c.args.slot c.read_slot.result _ _ c.requires.first first (ap second_at rest) h)
    (λ e h. place_fault_is c.args.bytes.now c.args.slot c.read_slot.result _ _ c.requires.first first (ap second_at rest) h)
