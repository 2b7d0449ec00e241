-- Why the verifier refuses a slot, in one sentence.
use Rattle.std.specs.Prelude.{ℕ, length, List, ◌++◌, codes, decimal, Option, Some, None}
use Rattle.ebpf_insn.specs.declared.register.Reg.{Reg}
use Rattle.ebpf_insn.specs.declared.insn.Insn.{Insn}
use Rattle.ebpf_text.specs.Operands.{register_text}
use Rattle.ebpf_state.specs.declared.kinds.KindRow.{KindRow}
use Rattle.ebpf_state.specs.StateView.{StateView}
use Rattle.ebpf_verify.specs.declared.decl.Decl.{Decl}
use Rattle.ebpf_verify.specs.declared.fault.VerifyCode.{VerifyCode}
use Rattle.ebpf_verify.specs.declared.fault.VerifyCode.TheVariants.{UnsetRegister, FramePointerWritten, PointerMisused, MovedTooFar}
use Rattle.ebpf_verify.specs.declared.fault.VerifyCode.TheVariants.{PointerCompared, OutsideStack, UnsetStack, OutsideContext, ContextWritten}
use Rattle.ebpf_verify.specs.declared.fault.VerifyCode.TheVariants.{OutsideObject, UntestedAnswer, PartialPointer, NumberAsAddress, UnknownHelper}
use Rattle.ebpf_verify.specs.declared.fault.VerifyCode.TheVariants.{WrongArgument, TooManyHeld, HeldAtExit, NoNumberReturned, PathsDiffer}
use Rattle.ebpf_explain.specs.Reads.{registers_read, answers_read, fault_with_reads, first_unset, first_answer}
use Rattle.ebpf_explain.specs.Accesses.{access_of}
use Rattle.ebpf_explain.specs.MemoryFaults.{access_with, outside, outside_object, context_written, number_as_address}
use Rattle.ebpf_explain.specs.CallFaults.{no_helper, call_with, too_many_held, held_at_exit, no_number_at_exit}
use Rattle.ebpf_explain.specs.Mendings.{number_called, mending}

abbrev pub name_or_register : Option Reg → List ℕ
name_or_register None = codes "a register"
name_or_register (Some r) = register_text r

abbrev pub unset_register : Option Reg → List ℕ
unset_register register = codes "reads " ++ (name_or_register register ++ codes ", which is not set on every path here")

abbrev pub answer_text : Option ℕ → List ℕ
answer_text None = codes "an answer"
answer_text (Some call) = codes "the answer of slot " ++ decimal call

abbrev pub unknown_answer : Option ℕ → List ℕ
unknown_answer call = codes "uses " ++ (answer_text call ++ codes ", which has not been compared with 0")

-- what the instruction does that it may not, with what is known
abbrev pub fault : Insn → StateView → VerifyCode → Decl → List KindRow → List ℕ
fault i s UnsetRegister decl rows = unset_register (first_unset s (registers_read i))
fault i s FramePointerWritten decl rows = codes "writes r10, the frame pointer"
fault i s PointerMisused decl rows = fault_with_reads (codes "is not defined for these operands") s (registers_read i)
fault i s MovedTooFar decl rows = fault_with_reads (codes "moves a pointer too far, or by a number that may have either sign") s (registers_read i)
fault i s PointerCompared decl rows = fault_with_reads (codes "compares something that is not a number") s (registers_read i)
fault i s OutsideStack decl rows = access_with (access_of i) s (codes ", but the stack is the 512 bytes below r10")
fault i s UnsetStack decl rows = access_with (access_of i) s (codes ", some of which are not set on every path here")
fault i s OutsideContext decl rows = outside (access_of i) s (codes ", but the context has ") (Some decl.context)
fault i s ContextWritten decl rows = context_written (access_of i)
fault i s OutsideObject decl rows = outside_object (access_of i) s (codes ", but the object has ") rows
fault i s UntestedAnswer decl rows = unknown_answer (first_answer s (answers_read i))
fault i s PartialPointer decl rows =
    fault_with_reads (codes "moves a pointer or an answer as something other than an aligned 8-byte word of the stack") s (registers_read i)
fault i s NumberAsAddress decl rows = number_as_address (access_of i) s
fault i s UnknownHelper decl rows = no_helper (number_called i)
fault i s WrongArgument decl rows = call_with (number_called i) (codes " with arguments that it does not accept") s (registers_read i)
fault i s TooManyHeld decl rows = too_many_held (length s.held)
fault i s HeldAtExit decl rows = held_at_exit s.held rows
fault i s NoNumberReturned decl rows = no_number_at_exit s
fault i s PathsDiffer decl rows = codes "is where paths meet that hold different objects, or of which only one has compared an answer"

-- a line: two blanks, the slot, what it does that it may not, and what would mend it
abbrev pub verify_sentence : ℕ → Insn → StateView → VerifyCode → Decl → List KindRow → List ℕ
verify_sentence slot i s code decl rows =
    codes "  slot " ++ (decimal slot ++ (codes " " ++ (fault i s code decl rows ++ (codes ": " ++ (mending i s code decl rows ++ codes "\n")))))
