-- Which steps of a run are chosen to be shown.
use Rattle.std.specs.Prelude.{ℕ, Bool, true, false, List, Option, Some, None, if◌then◌else◌, nat_lt, ◌||◌, slice_index_or}
use Rattle.ebpf_insn.specs.declared.register.Reg.TheVariants.{R0}
use Rattle.ebpf_insn.specs.declared.insn.Insn.{Insn}
use Rattle.ebpf_insn.specs.Registers.{number_of}
use Rattle.ebpf_machine.specs.Values.{Frame}
use Rattle.ebpf_steps.specs.declared.change.Change.{Change}
use Rattle.ebpf_steps.specs.declared.change.Change.TheVariants.{Nothing, Register, Memory, Output}
use Rattle.ebpf_steps.specs.declared.choice.Choice.{Choice}
use Rattle.ebpf_steps.specs.Changes.{changed}

-- a chosen register got a value: of those that an instruction leaves as they are, or unsets, none did
abbrev pub sets_chosen : List Bool → Change → Bool
sets_chosen registers (Register r v) = slice_index_or registers (number_of r) false
sets_chosen registers (Output n v) = slice_index_or registers (number_of R0) false
sets_chosen registers (Memory base offset v) = false
sets_chosen registers Nothing = false

-- where no registers are chosen, a step need not set one
abbrev pub sets_one : Option (List Bool) → Change → Bool
sets_one None c = true
sets_one (Some registers) c = sets_chosen registers c

-- a step, by how many steps of the run were before it, its slot and what it changed
abbrev pub chooses : Choice → (before : ℕ) → (slot : ℕ) → Change → Bool
chooses choice before slot c = if nat_lt before choice.skipped || nat_lt slot choice.from then false else sets_one choice.registers c

-- by the instruction there, and what the run owns after it; nothing begins at the second slot of a wide instruction
abbrev pub chosen_at : Choice → (before : ℕ) → (slot : ℕ) → Option Insn → Frame ℕ → Bool
chosen_at choice before slot None after = false
chosen_at choice before slot (Some i) after = chooses choice before slot (changed i after)
