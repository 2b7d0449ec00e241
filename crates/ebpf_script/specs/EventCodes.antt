-- The codes of events that are not legal, as they are written.
use Rattle.std.specs.Prelude.{ℕ, List, codes}
use Rattle.ebpf_core.specs.declared.fault.ApplyCode.{ApplyCode}
use Rattle.ebpf_core.specs.declared.fault.ApplyCode.TheVariants.{NoSuchRun, RunEnded, SlotNotHome, SlotOfAnotherKind, AnswerUnasked, AnswerMissing}
use Rattle.ebpf_core.specs.declared.fault.ApplyCode.TheVariants.{SlotInLedger, SlotNotReapable, NoSuchProgramOrKind, WrongContext}

abbrev pub apply_name : ApplyCode → List ℕ
apply_name NoSuchRun = codes "E1"
apply_name RunEnded = codes "E2"
apply_name SlotNotHome = codes "E3"
apply_name SlotOfAnotherKind = codes "E4"
apply_name AnswerUnasked = codes "E5"
apply_name AnswerMissing = codes "E6"
apply_name SlotInLedger = codes "E7"
apply_name SlotNotReapable = codes "E8"
apply_name NoSuchProgramOrKind = codes "E9"
apply_name WrongContext = codes "E10"
