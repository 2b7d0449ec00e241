use Rattle.std.proofs.Common.{ℕ, ◌<◌, ◌-◌, ◌⊎◌}
use Rattle.shared_cache.specs.Asking.{Moves, WasAsked, WasBusy}
use Rattle.shared_cache.proofs.reaping.drain_all.Given as goal

abbrev pub invariant-loop-place : goal.invariant-loop-place
invariant-loop-place g l = record {
  moves : Moves l.fn.pass l.pass 0 0;
  why : (k : ℕ) → k < l.place → WasAsked l.fn.pass.notes l.pass.notes k ⊎ WasBusy l.fn.pass.notes l.pass.notes (l.row.places - 1);
}
