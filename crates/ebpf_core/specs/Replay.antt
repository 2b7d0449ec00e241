-- The world after a list of events.
use Rattle.std.specs.Prelude.{◌≡◌, ℕ, ◌+◌, List, [], ◌∷◌, Result, Ok, Err}
use Rattle.ebpf_verify.specs.Subject.{Subject}
use Rattle.ebpf_machine.specs.World.{World}
use Rattle.ebpf_machine.specs.Events.{Illegal}
use Rattle.ebpf_core.specs.declared.event.Event.{Event}
use Rattle.ebpf_core.specs.declared.fault.ReplayFault.{ReplayFault}
use Rattle.ebpf_core.specs.declared.fault.ReplayFault.TheVariants.{Bad, NoMemory}
use Rattle.ebpf_core.specs.Events.{first_world, happened}
use Rattle.ebpf_core.specs.Faults.{code_of}
use Rattle.ebpf_core.specs.Shown.{WorldState, Shows}

-- the world that an event leads to goes on; an event that is not legal ends the list, with its number
abbrev pub and_then : Result World Illegal → ℕ → (World → Result World (ℕ × Illegal)) → Result World (ℕ × Illegal)
and_then (Ok w) index rest = rest w
and_then (Err why) index rest = Err (index, why)

-- the world after these events, the first of which has this number
unfoldable pub world_after_from : List Subject → List Event → ℕ → World → Result World (ℕ × Illegal)
world_after_from programs [] index w = Ok w
world_after_from programs (e ∷ events) index w = and_then (happened programs e w) index (world_after_from programs events (index + 1))

-- the world after a list of events, where each is legal in the world after those before it; else the number of the first
-- that is not, and why
abbrev pub world_after : List Subject → List Event → Result World (ℕ × Illegal)
world_after programs events = world_after_from programs events 0 first_world

-- the world that is kept shows the one after the events
abbrev pub IsReplayed : List Subject → List Event → WorldState → Type 0
IsReplayed programs events kept = (w : World) × (world_after programs events ≡ Ok w) × Shows w kept

-- the events have no world, for the cause of the code at the event of the index; or memory ran out
abbrev pub IsReplayFault : Result World (ℕ × Illegal) → ReplayFault → Type 0
IsReplayFault world NoMemory = Unit {0}
IsReplayFault world (Bad index code) = (why : Illegal) × (world ≡ Err (index, why)) × (code ≡ code_of why)
