-- What is read of a world.
use Rattle.std.specs.Prelude.{ℕ, ◌==◌, if◌then◌else◌, List, Option, Some, None, option_map, slice_get}
use Rattle.std.specs.Option.{option_and_then}
use Rattle.std.specs.List.{find}
use Rattle.ebpf_machine.specs.World.{World, Running, Owner, Holder, Run, Shelf, Going, Exited, Trapped, standing, is_in_ledger, ledger_of}
use Rattle.ebpf_machine.specs.World as world
use Rattle.ebpf_core.specs.declared.world.Status.{Status}
use Rattle.ebpf_core.specs.declared.world.Status.TheVariants as status

-- how far a run is; one that trapped is nowhere
abbrev pub status_of : world.Status → ℕ → Option Status
status_of Going pc = Some (status.Going pc)
status_of (Exited n) pc = Some (status.Exited n)
status_of (Trapped trap) pc = None

abbrev pub status_in : World → ℕ → Option Status
status_in w run = option_and_then (λ r. status_of r.status r.pc) (slice_get w.runs run)

-- what a run added to its output, and how many instructions it did
abbrev pub output_in : World → ℕ → Option (List ℕ)
output_in w run = option_map (λ r. r.frame.output) (slice_get w.runs run)

abbrev pub executed_in : World → ℕ → Option ℕ
executed_in w run = option_map (λ r. r.executed) (slice_get w.runs run)

-- the run that holds a slot, with the place of the call that was granted it; a shelf is none
abbrev pub run_of : Holder → Option (ℕ × ℕ)
run_of (Run run at) = Some (run, at)
run_of (Shelf s) = None

abbrev pub owner_in : World → ℕ → Option (ℕ × ℕ)
owner_in w slot = option_and_then (λ o. run_of o.holder) (find (λ o. o.slot == slot) w.owners)

-- the slot on a shelf
abbrev pub shelf_in : World → ℕ → Option ℕ
shelf_in w shelf = option_map (λ o. o.slot) (standing w shelf)

-- the bytes of a slot of a ledger
abbrev pub bytes_in : World → ℕ → Option (List ℕ)
bytes_in w slot = if is_in_ledger w slot then Some (w.bytes slot) else None

-- the slots of a kind
abbrev pub ledger_in : World → ℕ → List ℕ
ledger_in w kind = ledger_of w kind
