-- The run of `one`: one run in a world of its own, which begins with no slots and with nothing on its shelves.
use Rattle.std.specs.Prelude.{ℕ, zero, suc, Bool, if◌then◌else◌, List, length, map, Option, Some, None, slice_get}
use Rattle.ebpf_insn.specs.Program.{instructions}
use Rattle.ebpf_verify.specs.Subject.{Subject}
use Rattle.ebpf_machine.specs.declared.answer.Answer.TheVariants.{Absent, Null, Slot}
use Rattle.ebpf_machine.specs.World.{World, Running}
use Rattle.ebpf_machine.specs.Events.{Asking, Unasked, OfNoKind, OfKind, AtShelf, asking_of, with_slot_joined, exec}
use Rattle.ebpf_machine.specs.Alone.{Alone, Fed, Outcome, alone_first, advanced, outcome_of}
use Rattle.ebpf_machine.specs.Whole.{granted}

-- each call of new is answered null, or is granted this slot, which joins the ledger of its kind just before; a call of swap meets the
-- shelves as the run left them
abbrev pub provided : Asking → Bool → ℕ → World → Fed
provided (OfKind kind) nulls slot w = if nulls then record { world = w; answer = Null } else record { world = with_slot_joined kind slot w; answer = Slot slot }
provided OfNoKind nulls slot w = record { world = w; answer = Null }
provided (AtShelf shelf) nulls slot w = record { world = w; answer = Absent }
provided Unasked nulls slot w = record { world = w; answer = Absent }

-- slots are numbered as they are granted
abbrev pub next_slot : Running → ℕ
next_slot r = granted (map (λ call. call.reply) r.calls)

abbrev pub solo_by : Option Running → Bool → Alone → Alone
solo_by None nulls a = a
solo_by (Some r) nulls a = let f = provided (asking_of a.world r) nulls (next_slot r) a.world in advanced (exec f.world 0 f.answer) a

-- one instruction more
abbrev pub solo_next : Bool → Alone → Alone
solo_next nulls a = solo_by (slice_get a.world.runs 0) nulls a

-- after n instructions
unfoldable pub solo_after : ℕ → Subject → List ℕ → Bool → Alone
solo_after zero s context nulls = alone_first s context
solo_after (suc n) s context nulls = solo_next nulls (solo_after n s context nulls)

-- what it ends with: no run goes on for longer than its program has instructions
abbrev pub outcome_with : Subject → List ℕ → Bool → Outcome
outcome_with s context nulls = outcome_of (solo_after (length (instructions s.program)) s context nulls)
