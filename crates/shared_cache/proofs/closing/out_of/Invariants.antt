use Rattle.std.proofs.Common.{◌≡◌, ◌*◌, ◌^◌, ◌≤◌, take}
use Rattle.std.specs.List.{sum_by}
use Rattle.shared_cache.specs.PlaceView.{outs}
use Rattle.shared_cache.proofs.closing.out_of.Given as goal

abbrev pub invariant-loop-place : goal.invariant-loop-place
invariant-loop-place g l = record {
  counted : l.out ≡ sum_by (λ b. outs b.value) (take l.place-index l.places);
  few : l.out ≤ l.place-index * 2 ^ 32;
}
