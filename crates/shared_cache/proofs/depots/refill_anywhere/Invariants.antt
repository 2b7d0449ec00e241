use Rattle.std.proofs.Common.{◌≡◌, length}
use Rattle.magazine.specs.LayerView.{rounds_of}
use Rattle.shared_cache.specs.Asking.{Moves}
use Rattle.shared_cache.proofs.Notes.{StepsAsked}
use Rattle.shared_cache.proofs.depots.refill_anywhere.Given as goal

abbrev pub invariant-loop-step : goal.invariant-loop-step
invariant-loop-step g l = record {
  moves : Moves l.fn.pass l.pass (length (rounds_of l.layer)) (length (rounds_of l.fn.layer));
  layer : l.layer ≡ l.fn.layer;
  asked : StepsAsked l.fn.pass.notes l.pass.notes l.fn.first l.depots l.step;
}
