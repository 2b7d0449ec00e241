use Rattle.std.proofs.Common.{◌≡◌, ◌+◌, ◌*◌, ◌^◌, ◌≤◌, vec_len}
use Rattle.std.specs.List.{sum_by}
use Rattle.slab_layer.specs.Slots.{out_count}
use Rattle.shared_cache.specs.PlaceView.{ins, outs}
use Rattle.shared_cache.proofs.closing.gathered.Given as goal

abbrev pub invariant-loop-place : goal.invariant-loop-place
invariant-loop-place g l = record {
  most : vec_len l.places ≤ 65;
  missing : l.others.missing + vec_len l.places * 2 ^ 32 ≤ 65 * 2 ^ 32;
  few : l.foreign + l.others.foreign + sum_by (λ b. ins b.value) l.places.items ≤ sum_by (λ b. ins b.value) l.fn.places.items;
  counted : out_count l.slabs + l.others.missing + sum_by (λ b. outs b.value) l.places.items + sum_by (λ b. ins b.value) l.fn.places.items ≡
      sum_by (λ b. outs b.value) l.fn.places.items + l.foreign + l.others.foreign + sum_by (λ b. ins b.value) l.places.items;
}

abbrev pub decreases-loop-place : goal.decreases-loop-place
decreases-loop-place g l = vec_len l.places
