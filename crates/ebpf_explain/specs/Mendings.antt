-- What would mend a refused slot, as text.
use Rattle.std.specs.Prelude.{ℕ, ℤ, pos, ◌-ℤ◌, List, codes, Option, Some, None, unwrap_or}
use Rattle.ebpf_insn.specs.declared.insn.Insn.{Insn}
use Rattle.ebpf_insn.specs.declared.insn.Insn.TheVariants as insn
use Rattle.ebpf_state.specs.declared.kinds.KindRow.{KindRow}
use Rattle.ebpf_state.specs.StateView.{StateView}
use Rattle.ebpf_state.specs.States.{register_of}
use Rattle.ebpf_verify.specs.declared.decl.Decl.{Decl}
use Rattle.ebpf_verify.specs.declared.decl.TheConstants.{MAX_CONTEXT}
use Rattle.ebpf_verify.specs.declared.fault.VerifyCode.{VerifyCode}
use Rattle.ebpf_verify.specs.declared.fault.VerifyCode.TheVariants.{UnsetRegister, FramePointerWritten, PointerMisused, MovedTooFar}
use Rattle.ebpf_verify.specs.declared.fault.VerifyCode.TheVariants.{PointerCompared, OutsideStack, UnsetStack, OutsideContext, ContextWritten}
use Rattle.ebpf_verify.specs.declared.fault.VerifyCode.TheVariants.{OutsideObject, UntestedAnswer, PartialPointer, NumberAsAddress, UnknownHelper}
use Rattle.ebpf_verify.specs.declared.fault.VerifyCode.TheVariants.{WrongArgument, TooManyHeld, HeldAtExit, NoNumberReturned, PathsDiffer}
use Rattle.ebpf_operation.specs.declared.helper.Helper.{Helper}
use Rattle.ebpf_operation.specs.declared.helper.Helper.TheVariants.{New, Free, Emit, Swap}
use Rattle.ebpf_operation.specs.Helpers.{helper_of}
use Rattle.ebpf_explain.specs.declared.accesses.Access.{Access}
use Rattle.ebpf_explain.specs.declared.rooms.Ends.{Ends}
use Rattle.ebpf_explain.specs.Accesses.{access_of}
use Rattle.ebpf_explain.specs.MemoryFaults.{size_behind}
use Rattle.ebpf_explain.specs.Rooms.{within}

-- the codes of calls refuse calls alone; any other instruction has the number 0
abbrev pub number_called : Insn → ℤ
number_called (insn.Call number) = number
number_called _ = pos 0

-- what a helper asks of its arguments
abbrev pub asked_of : Option Helper → List ℕ
asked_of (Some New) = codes "r1 must be the constant 0, 1 or 2"
asked_of (Some Free) = codes "r1 must point to the first byte of an object"
asked_of (Some Emit) = codes "r1 must be a number"
asked_of (Some Swap) = codes "r1 must be the constant 0, 1 or 2, and r2 must be 0 or point to the first byte of an object of that kind"
asked_of None = codes "check its arguments"

-- by the code, and of arguments by the helper
abbrev pub plain_mending : Insn → VerifyCode → List ℕ
plain_mending i UnsetRegister = codes "set it first (a call unsets r1 to r5, and free unsets every pointer to its object)"
plain_mending i FramePointerWritten = codes "copy it to another register first"
plain_mending i PointerMisused = codes "move pointers with add64 or sub64 by a number, and a stack pointer by a constant"
plain_mending i MovedTooFar = codes "bound the number, and stay within 2^29 bytes of the base"
plain_mending i PointerCompared = codes "compare only numbers, or an answer with 0 by jeq64 or jne64"
plain_mending i OutsideStack = codes "keep within it"
plain_mending i UnsetStack = codes "store to each of them first"
plain_mending i OutsideContext = codes "keep within it"
plain_mending i ContextWritten = codes "copy it to the stack first"
plain_mending i OutsideObject = codes "keep within it"
plain_mending i UntestedAnswer = codes "compare it first, and use it only where it is not 0"
plain_mending i PartialPointer = codes "store it as 8 bytes at a multiple of 8 from r10, and load it the same way"
plain_mending i NumberAsAddress = codes "load and store through r10, the context, an object, or a pointer derived from one of these"
plain_mending i UnknownHelper = codes "call 1 (new), 2 (free), 3 (emit) or 4 (swap)"
plain_mending i WrongArgument = asked_of (helper_of (number_called i))
plain_mending i TooManyHeld = codes "free one, put one on a shelf, or declare more"
plain_mending i HeldAtExit = codes "free each, or put it on a shelf, on every path here"
plain_mending i NoNumberReturned = codes "return a number"
plain_mending i PathsDiffer = codes "before they meet, free what only one of them holds"

-- the bytes of the stack, from the frame pointer
abbrev pub stack_ends : Ends
stack_ends = record { low = pos 0 -ℤ pos 512; high = pos 0 }

-- n bytes, from the first of them
abbrev pub ends_of : ℕ → Ends
ends_of size = record { low = pos 0; high = pos size }

abbrev pub within_object : Access → StateView → List KindRow → List ℕ
within_object a s rows = within a s (ends_of (unwrap_or (size_behind rows s (register_of s a.base)) 0)) 0

-- what would mend a slot; an access that may be outside of something, by what is known of its base
abbrev pub mending : Insn → StateView → VerifyCode → Decl → List KindRow → List ℕ
mending i s OutsideStack decl rows = within (access_of i) s stack_ends 0
mending i s OutsideContext decl rows = within (access_of i) s (ends_of decl.context) MAX_CONTEXT
mending i s OutsideObject decl rows = within_object (access_of i) s rows
mending i s code decl rows = plain_mending i code
