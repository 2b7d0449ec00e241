use Rattle.std.proofs.Common.{refl, ◌-◌, ◌∙◌, arith}
use Rattle.shared_cache.proofs.Moving.{moves_then}
use Rattle.shared_cache.proofs.Notes.{steps_all, steps_more}
use Rattle.shared_cache.proofs.depots.refill_anywhere.Goals as goal

pub loop-step-preserved : goal.loop-step-preserved
loop-step-preserved g c =
    let i = c.loop-step.invariant in
    let e = c.if-refill_at.ensures in
    record {
      moves = moves_then _ _ _ _ _ _ _ i.moves e.moves refl;
      layer = e.same refl ∙ i.layer;
      asked = steps_more _ _ _ c.args.first (c.places-depots.result - 1) c.loop-step.step c.turn.result i.asked i.moves.notes c.turn.ensures e.asked;
    }

pub returns-clause-asked : goal.returns-clause-asked
returns-clause-asked g c =
    let i = c.loop-step.invariant in
    λ _ k below. steps_all _ _ c.args.first (c.places-depots.result - 1) c.loop-step.step (omega arith) (omega arith) i.asked k (omega arith)
