use Rattle.std.proofs.Common.{rules, ◌≡◌, ◌<◌, ◌^◌, sym, ◌∙◌}
use Rattle.std.specs.Prelude.{IfSome}
use Rattle.ebpf_insn.specs.Registers.{number_of}
use Rattle.ebpf_insn.specs.Decoding.{second_at}
use Rattle.ebpf_insn.proofs.SlotBytes.{FitsSlot}
use Rattle.ebpf_insn.proofs.Registers.{number_of-register_of}
use Rattle.ebpf_insn.proofs.FromSlots.{IsFine}
use Rattle.ebpf_insn.proofs.SlotTests.{nibble, encoded_as, encoded_with, lacks_is, bad_is, registers, fault_no_form, fault_left_out, fault_source}
use Rattle.ebpf_insn.proofs.SlotTests.{fault_dst, fault_src, fault_unused, fault_lacks, fault_second, fault_defined, no_fault}
use Rattle.ebpf_insn.proofs.decode.decode_form.Goals as goal

pub returns-clause-found : goal.returns-clause-found
returns-clause-found c =
    let to : number_of c.in-Some-Some.dst ≡ c.args.slot.dst = number_of-register_of c.args.slot.dst c.in-Some-Some.dst (sym c.in-Some-Some.ensures) in
    let from : number_of c.in-Some-Some.src ≡ c.args.slot.src = number_of-register_of c.args.slot.src c.in-Some-Some.src (sym c.in-Some-Some.ensures') in
    let fits : FitsSlot c.args.slot = record { opcode = search rules; dst = nibble c.in-Some-Some.dst c.args.slot.dst to; src = nibble c.in-Some-Some.src c.args.slot.src from; offset = search rules; imm = search rules } in
    let next : IfSome c.second_of-second.result (λ t. t.imm < 2 ^ 32) = search rules in
    let fine : IsFine c.in-Some.form c.args.slot c.second_of-second.result c.in-Some-Some.dst c.in-Some-Some.src = record {
      fits = fits;
      next = next;
      here = sym c.requires ∙ c.in-Some.is;
      to = to;
      from = from;
      unused = sym c.if-not-leaves_unused_zero.ensures;
      whole = sym c.if-lacks_second.ensures;
      blank = sym c.if-has_bad_second.ensures;
      defined = sym c.if-not-has_defined_fields.ensures;
    } in
    encoded_with c.in-Some.form c.insn_at_slot.result c.args.slot c.second_of-second.result c.args.bytes.now c.second_of-second.ensures (encoded_as c.insn_at_slot.result c.in-Some.form c.args.slot c.second_of-second.result c.in-Some-Some.dst c.in-Some-Some.src c.insn_at_slot.ensures fine)

pub returns-then-is_left_out-clause-fault : goal.returns-then-is_left_out-clause-fault
returns-then-is_left_out-clause-fault c = fault_left_out c.args.slot (second_at c.args.bytes.now) (sym c.in_default.is ∙ c.requires) c.if-is_left_out.ensures

pub returns-else-is_left_out-clause-fault : goal.returns-else-is_left_out-clause-fault
returns-else-is_left_out-clause-fault c = fault_no_form c.args.slot (second_at c.args.bytes.now) (sym c.in_default.is ∙ c.requires) c.if-is_left_out.ensures

pub returns-then-has_left_out_source-clause-fault : goal.returns-then-has_left_out_source-clause-fault
returns-then-has_left_out_source-clause-fault c =
    fault_source c.in-Some.form c.args.slot (second_at c.args.bytes.now) (sym c.in-Some.is ∙ c.requires) c.if-has_left_out_source.ensures

pub returns-in_default-2-2-clause-fault : goal.returns-in_default-2-2-clause-fault
returns-in_default-2-2-clause-fault c = fault_dst c.in-Some.form c.args.slot (second_at c.args.bytes.now) (sym c.in-Some.is ∙ c.requires) c.if-has_left_out_source.ensures (sym c.new.ensures ∙ c.in_default-2.is-0)

pub returns-in_default-2-clause-fault : goal.returns-in_default-2-clause-fault
returns-in_default-2-clause-fault c = fault_src c.in-Some.form c.args.slot (second_at c.args.bytes.now) c.in_default-2.field-0-0 (sym c.in-Some.is ∙ c.requires) c.if-has_left_out_source.ensures (sym c.new.ensures ∙ c.in_default-2.is-0) (sym c.new-2.ensures ∙ c.in_default-2.is-1)

pub returns-then-not-leaves_unused_zero-clause-fault : goal.returns-then-not-leaves_unused_zero-clause-fault
returns-then-not-leaves_unused_zero-clause-fault c = fault_unused c.in-Some.form c.args.slot (second_at c.args.bytes.now) (registers (sym c.in-Some.is ∙ c.requires) c.if-has_left_out_source.ensures c.in-Some-Some.ensures c.in-Some-Some.ensures') c.if-not-leaves_unused_zero.ensures

pub returns-then-lacks_second-clause-fault : goal.returns-then-lacks_second-clause-fault
returns-then-lacks_second-clause-fault c = fault_lacks c.in-Some.form c.args.slot (second_at c.args.bytes.now)
    (registers (sym c.in-Some.is ∙ c.requires) c.if-has_left_out_source.ensures c.in-Some-Some.ensures c.in-Some-Some.ensures')
    c.if-not-leaves_unused_zero.ensures (lacks_is c.in-Some.form c.args.bytes.now c.second_of-second.ensures
    c.if-lacks_second.ensures)

pub returns-then-has_bad_second-clause-fault : goal.returns-then-has_bad_second-clause-fault
returns-then-has_bad_second-clause-fault c = fault_second c.in-Some.form c.args.slot (second_at c.args.bytes.now)
    (registers (sym c.in-Some.is ∙ c.requires) c.if-has_left_out_source.ensures c.in-Some-Some.ensures c.in-Some-Some.ensures')
    c.if-not-leaves_unused_zero.ensures (lacks_is c.in-Some.form c.args.bytes.now c.second_of-second.ensures
    c.if-lacks_second.ensures) (bad_is c.in-Some.form c.args.bytes.now c.second_of-second.ensures c.if-has_bad_second.ensures)

pub returns-then-not-has_defined_fields-clause-fault : goal.returns-then-not-has_defined_fields-clause-fault
returns-then-not-has_defined_fields-clause-fault c = fault_defined c.in-Some.form c.args.slot (second_at c.args.bytes.now)
    (registers (sym c.in-Some.is ∙ c.requires) c.if-has_left_out_source.ensures c.in-Some-Some.ensures c.in-Some-Some.ensures')
    c.if-not-leaves_unused_zero.ensures (lacks_is c.in-Some.form c.args.bytes.now c.second_of-second.ensures
    c.if-lacks_second.ensures) (bad_is c.in-Some.form c.args.bytes.now c.second_of-second.ensures c.if-has_bad_second.ensures)
    c.if-not-has_defined_fields.ensures

pub returns-clause-fault : goal.returns-clause-fault
returns-clause-fault c = no_fault c.in-Some.form c.args.slot (second_at c.args.bytes.now)
    (registers (sym c.in-Some.is ∙ c.requires) c.if-has_left_out_source.ensures c.in-Some-Some.ensures c.in-Some-Some.ensures')
    c.if-not-leaves_unused_zero.ensures (lacks_is c.in-Some.form c.args.bytes.now c.second_of-second.ensures
    c.if-lacks_second.ensures) (bad_is c.in-Some.form c.args.bytes.now c.second_of-second.ensures c.if-has_bad_second.ensures)
    c.if-not-has_defined_fields.ensures
