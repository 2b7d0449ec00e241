-- What an event does to the world.
use Rattle.std.specs.Prelude.{List, [], map, Result, slice_get}
use Rattle.ebpf_verify.specs.Subject.{Subject}
use Rattle.ebpf_machine.specs.World.{World}
use Rattle.ebpf_machine.specs.Events.{Illegal, starting, exec, growing, reaping}
use Rattle.ebpf_core.specs.declared.event.Event.{Event}
use Rattle.ebpf_core.specs.declared.event.Event.TheVariants.{Start, Exec, Grow, Reap}
use Rattle.ebpf_machine.specs.Kinds.{known_kinds}

-- the world before any event: a ledger for each kind, with no slot; no runs
abbrev pub first_world : World
first_world = record { kinds = known_kinds; ledgers = map (λ kind. []) known_kinds; owners = []; bytes = λ slot. []; runs = [] }

-- the world after an event, or why the event is not legal
abbrev pub happened : List Subject → Event → World → Result World Illegal
happened programs (Start program context) w = starting (slice_get programs program) context w
happened programs (Exec run answer) w = exec w run answer
happened programs (Grow kind slot) w = growing kind slot w
happened programs (Reap kind slot) w = reaping kind slot w
