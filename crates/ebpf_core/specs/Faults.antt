-- The codes of events that are not legal.
use Rattle.std.specs.Prelude.{◌≡◌, Result, Ok, Err}
use Rattle.ebpf_machine.specs.World.{World}
use Rattle.ebpf_machine.specs.Events.{Illegal}
use Rattle.ebpf_machine.specs.Events as events
use Rattle.ebpf_core.specs.declared.event.Event.{Event}
use Rattle.ebpf_core.specs.declared.event.Event.TheVariants.{Start, Exec, Grow, Reap}
use Rattle.ebpf_core.specs.declared.fault.ApplyCode.{ApplyCode}
use Rattle.ebpf_core.specs.declared.fault.ApplyCode.TheVariants.{NoSuchRun, RunEnded, SlotNotHome, SlotOfAnotherKind, AnswerUnasked, AnswerMissing}
use Rattle.ebpf_core.specs.declared.fault.ApplyCode.TheVariants.{SlotInLedger, SlotNotReapable, NoSuchProgramOrKind, WrongContext}
use Rattle.ebpf_core.specs.declared.fault.ApplyFault.{ApplyFault}
use Rattle.ebpf_core.specs.declared.fault.ApplyFault.TheVariants.{Bad, NoMemory}

abbrev pub code_of : Illegal → ApplyCode
code_of events.NoSuchRun = NoSuchRun
code_of events.RunEnded = RunEnded
code_of events.SlotNotHome = SlotNotHome
code_of events.SlotOfAnotherKind = SlotOfAnotherKind
code_of events.AnswerUnasked = AnswerUnasked
code_of events.AnswerMissing = AnswerMissing
code_of events.SlotInLedger = SlotInLedger
code_of events.SlotNotReapable = SlotNotReapable
code_of events.NoSuchProgramOrKind = NoSuchProgramOrKind
code_of events.WrongContext = WrongContext

-- the event is not legal, and this is the code of the cause; or it is legal, and memory ran out
abbrev pub IsApplyFault : Result World Illegal → ApplyFault → Type 0
IsApplyFault after NoMemory = (w : World) × (after ≡ Ok w)
IsApplyFault after (Bad code) = (why : Illegal) × (after ≡ Err why) × (code ≡ code_of why)

-- what takes memory: a run that starts, and a slot that joins
abbrev pub TakesMemory : Event → Type 0
TakesMemory (Start program context) = Unit {0}
TakesMemory (Grow kind slot) = Unit {0}
TakesMemory (Exec run answer) = ⊥
TakesMemory (Reap kind slot) = ⊥

abbrev pub IsMemoryDue : Event → ApplyFault → Type 0
IsMemoryDue event NoMemory = TakesMemory event
IsMemoryDue event (Bad code) = Unit {0}
