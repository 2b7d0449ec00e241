use Rattle.std.proofs.Common.{◌≡◌, List, ◌++◌, Some, ap, ◌∙◌, OnOk, subst, string_bytes, codes}
use Rattle.ebpf_state.specs.declared.held.Held.{Held}
use Rattle.ebpf_explain.specs.declared.accesses.Access.{Access}
use Rattle.ebpf_explain.specs.CallFaults.{too_many_held, held_at_exit}
use Rattle.ebpf_explain.specs.MemoryFaults.{access_with, outside, outside_object, context_written, number_as_address}
use Rattle.ebpf_explain.specs.Reads.{first_unset, first_answer}
use Rattle.ebpf_explain.specs.VerifySentences.{unset_register, unknown_answer}
use Rattle.ebpf_explain.proofs.FaultLemmas.{told, told_as, told_at_once}
use Rattle.ebpf_explain.proofs.verify_sentence.write_fault.Goals as goal

pub returns-in-UnsetRegister : goal.returns-in-UnsetRegister
returns-in-UnsetRegister c = told_as _ _ _ _ c.args.insn.now c.args.state.now _ _ c.args.decl c.args.kinds.now c.in-UnsetRegister.is
    (ap unset_register (c.first_unset.ensures ∙ ap (first_unset c.args.state.now) c.registers_read.ensures)) c.write_unset_register.ensures

pub returns-in-FramePointerWritten : goal.returns-in-FramePointerWritten
returns-in-FramePointerWritten c =
    told_at_once _ _ _ c.args.insn.now c.args.state.now _ _ c.args.decl c.args.kinds.now c.in-FramePointerWritten.is c.push_str.ensures.bytes

pub returns-in-PointerMisused : goal.returns-in-PointerMisused
returns-in-PointerMisused c = told _ _ _ c.args.insn.now c.args.state.now _ _ c.args.decl c.args.kinds.now c.in-PointerMisused.is c.write_with_reads.ensures

pub returns-in-MovedTooFar : goal.returns-in-MovedTooFar
returns-in-MovedTooFar c =
    told _ _ _ c.args.insn.now c.args.state.now _ _ c.args.decl c.args.kinds.now c.in-MovedTooFar.is c.write_with_reads-in-MovedTooFar.ensures

pub returns-in-PointerCompared : goal.returns-in-PointerCompared
returns-in-PointerCompared c =
    told _ _ _ c.args.insn.now c.args.state.now _ _ c.args.decl c.args.kinds.now c.in-PointerCompared.is c.write_with_reads-in-PointerCompared.ensures

pub returns-in-OutsideStack : goal.returns-in-OutsideStack
returns-in-OutsideStack c = told_as _ _ _ _ c.args.insn.now c.args.state.now _ _ c.args.decl c.args.kinds.now c.in-OutsideStack.is
    (ap (λ (a : Access). access_with a c.args.state.now (codes ", but the stack is the 512 bytes below r10")) c.access_of.ensures) c.write_access_with.ensures

pub returns-in-UnsetStack : goal.returns-in-UnsetStack
returns-in-UnsetStack c = told_as _ _ _ _ c.args.insn.now c.args.state.now _ _ c.args.decl c.args.kinds.now c.in-UnsetStack.is
    (ap (λ (a : Access). access_with a c.args.state.now (codes ", some of which are not set on every path here")) c.access_of-in-UnsetStack.ensures)
    c.write_access_with-in-UnsetStack.ensures

pub returns-in-OutsideContext : goal.returns-in-OutsideContext
returns-in-OutsideContext c = told_as _ _ _ _ c.args.insn.now c.args.state.now _ _ c.args.decl c.args.kinds.now c.in-OutsideContext.is
    (ap (λ (a : Access). outside a c.args.state.now (codes ", but the context has ") (Some c.args.decl.context)) c.access_of-in-OutsideContext.ensures)
    c.write_outside.ensures

pub returns-in-ContextWritten : goal.returns-in-ContextWritten
returns-in-ContextWritten c = told_as _ _ _ _ c.args.insn.now c.args.state.now _ _ c.args.decl c.args.kinds.now c.in-ContextWritten.is
    (ap context_written c.access_of-in-ContextWritten.ensures) c.write_context_written.ensures

pub returns-in-OutsideObject : goal.returns-in-OutsideObject
returns-in-OutsideObject c =
    told _ _ _ c.args.insn.now c.args.state.now _ _ c.args.decl c.args.kinds.now c.in-OutsideObject.is (subst (λ (a : Access). OnOk c.write_outside_object.result
    (string_bytes c.write_outside_object.new.text ≡ string_bytes c.args.text.now
    ++ outside_object a c.args.state.now (codes ", but the object has ") c.args.kinds.now))
    c.access_of-in-OutsideObject.ensures c.write_outside_object.ensures)

pub returns-in-UntestedAnswer : goal.returns-in-UntestedAnswer
returns-in-UntestedAnswer c = told_as _ _ _ _ c.args.insn.now c.args.state.now _ _ c.args.decl c.args.kinds.now c.in-UntestedAnswer.is
    (ap unknown_answer (c.first_answer.ensures ∙ ap (first_answer c.args.state.now) c.answers_read.ensures)) c.write_unknown_answer.ensures

pub returns-in-PartialPointer : goal.returns-in-PartialPointer
returns-in-PartialPointer c =
    told _ _ _ c.args.insn.now c.args.state.now _ _ c.args.decl c.args.kinds.now c.in-PartialPointer.is c.write_with_reads-in-PartialPointer.ensures

pub returns-in-NumberAsAddress : goal.returns-in-NumberAsAddress
returns-in-NumberAsAddress c = told_as _ _ _ _ c.args.insn.now c.args.state.now _ _ c.args.decl c.args.kinds.now c.in-NumberAsAddress.is
    (ap (λ (a : Access). number_as_address a c.args.state.now) c.access_of-in-NumberAsAddress.ensures) c.write_number_as_address.ensures

pub returns-in-WrongArgument : goal.returns-in-WrongArgument
returns-in-WrongArgument c = told _ _ _ c.args.insn.now c.args.state.now _ _ c.args.decl c.args.kinds.now c.in-WrongArgument.is c.write_call_with.ensures

pub returns-in-TooManyHeld : goal.returns-in-TooManyHeld
returns-in-TooManyHeld c = told_as _ _ _ _ c.args.insn.now c.args.state.now _ _ c.args.decl c.args.kinds.now c.in-TooManyHeld.is
    (ap too_many_held c.held.ensures) c.write_too_many_held.ensures

pub returns-in-HeldAtExit : goal.returns-in-HeldAtExit
returns-in-HeldAtExit c = told_as _ _ _ _ c.args.insn.now c.args.state.now _ _ c.args.decl c.args.kinds.now c.in-HeldAtExit.is
    (ap (λ (held : List Held). held_at_exit held c.args.kinds.now) c.references.ensures) c.write_held_at_exit.ensures

pub returns-in-NoNumberReturned : goal.returns-in-NoNumberReturned
returns-in-NoNumberReturned c =
    told _ _ _ c.args.insn.now c.args.state.now _ _ c.args.decl c.args.kinds.now c.in-NoNumberReturned.is c.write_no_number_at_exit.ensures

pub returns-in-PathsDiffer : goal.returns-in-PathsDiffer
returns-in-PathsDiffer c =
    told_at_once _ _ _ c.args.insn.now c.args.state.now _ _ c.args.decl c.args.kinds.now c.in-PathsDiffer.is c.push_str-in-PathsDiffer.ensures.bytes
