-- The codes of refusals, as they are written.
use Rattle.std.specs.Prelude.{ℕ, List, codes}
use Rattle.ebpf_insn.specs.declared.fault.DecodeCode.{DecodeCode}
use Rattle.ebpf_insn.specs.declared.fault.DecodeCode.TheVariants.{WrongLength, UnknownOpcode, UnknownRegister, UnusedFieldSet, MissingSecondSlot}
use Rattle.ebpf_insn.specs.declared.fault.DecodeCode.TheVariants.{BadSecondSlot, UndefinedField, UnsupportedForm, ProgramTooLong}
use Rattle.ebpf_flow.specs.declared.fault.FlowCode.{FlowCode}
use Rattle.ebpf_flow.specs.declared.fault.FlowCode.TheVariants.{JumpOutside, JumpIntoWide, JumpBackward, FallsOffEnd, Unreachable}
use Rattle.ebpf_verify.specs.declared.fault.VerifyCode.{VerifyCode}
use Rattle.ebpf_verify.specs.declared.fault.VerifyCode.TheVariants.{UnsetRegister, FramePointerWritten, PointerMisused, MovedTooFar}
use Rattle.ebpf_verify.specs.declared.fault.VerifyCode.TheVariants.{PointerCompared, OutsideStack, UnsetStack, OutsideContext, ContextWritten}
use Rattle.ebpf_verify.specs.declared.fault.VerifyCode.TheVariants.{OutsideObject, UntestedAnswer, PartialPointer, NumberAsAddress, UnknownHelper}
use Rattle.ebpf_verify.specs.declared.fault.VerifyCode.TheVariants.{WrongArgument, TooManyHeld, HeldAtExit, NoNumberReturned, PathsDiffer}
use Rattle.ebpf_command.specs.declared.codes.RefusalCode.{RefusalCode}
use Rattle.ebpf_command.specs.declared.codes.RefusalCode.TheVariants.{Decode, Flow, Verify}

abbrev pub decode_name : DecodeCode → List ℕ
decode_name WrongLength = codes "I1"
decode_name UnknownOpcode = codes "I2"
decode_name UnknownRegister = codes "I3"
decode_name UnusedFieldSet = codes "I4"
decode_name MissingSecondSlot = codes "I5"
decode_name BadSecondSlot = codes "I6"
decode_name UndefinedField = codes "I7"
decode_name UnsupportedForm = codes "I8"
decode_name ProgramTooLong = codes "I9"

abbrev pub flow_name : FlowCode → List ℕ
flow_name JumpOutside = codes "F1"
flow_name JumpIntoWide = codes "F2"
flow_name JumpBackward = codes "F3"
flow_name FallsOffEnd = codes "F4"
flow_name Unreachable = codes "F5"

abbrev pub verify_name : VerifyCode → List ℕ
verify_name UnsetRegister = codes "V1"
verify_name FramePointerWritten = codes "V2"
verify_name PointerMisused = codes "V3"
verify_name MovedTooFar = codes "V4"
verify_name PointerCompared = codes "V5"
verify_name OutsideStack = codes "V6"
verify_name UnsetStack = codes "V7"
verify_name OutsideContext = codes "V8"
verify_name ContextWritten = codes "V9"
verify_name OutsideObject = codes "V10"
verify_name UntestedAnswer = codes "V11"
verify_name PartialPointer = codes "V12"
verify_name NumberAsAddress = codes "V13"
verify_name UnknownHelper = codes "V14"
verify_name WrongArgument = codes "V15"
verify_name TooManyHeld = codes "V16"
verify_name HeldAtExit = codes "V17"
verify_name NoNumberReturned = codes "V18"
verify_name PathsDiffer = codes "V19"

abbrev pub refusal_name : RefusalCode → List ℕ
refusal_name (Decode code) = decode_name code
refusal_name (Flow code) = flow_name code
refusal_name (Verify code) = verify_name code
