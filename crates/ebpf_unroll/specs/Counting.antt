-- Runs of programs with loops: an object has for a name the number of the call that was granted it, counted as the run makes its calls.
-- The slot of the call, which names it elsewhere, names two objects where the call is made again.
use Rattle.std.specs.Prelude.{ℕ, zero, suc, length}
use Rattle.ebpf_machine.specs.World.{Status, Going}
use Rattle.ebpf_machine.specs.View.{CallResult, RunView, effect_of_view, done_by}

-- the run, with the number of its next call in place of its slot, where a new object finds its name
abbrev pub numbered : RunView → RunView
numbered v = record v { pc = length v.replies }

abbrev pub counted_from : Status → CallResult → RunView → RunView
counted_from Going result v = done_by (effect_of_view v) result (numbered v)
counted_from _ result v = v

-- one instruction
abbrev pub counted : CallResult → RunView → RunView
counted result v = counted_from v.status result v

-- a run after n instructions more, where each call of new or of swap is answered what its number says
unfoldable pub count_on : ℕ → (ℕ → CallResult) → RunView → RunView
count_on zero told v = v
count_on (suc n) told v = let w = count_on n told v in counted (told (length w.replies)) w
