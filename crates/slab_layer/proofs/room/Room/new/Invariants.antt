use Rattle.std.proofs.Common.{◌≡◌, ◌≤◌, length, vec_len, vec_capacity}
use Rattle.std.specs.List.{All}
use Rattle.slab_layer.proofs.room.Room.new.Given as goal

abbrev pub invariant-loop-index : goal.invariant-loop-index
invariant-loop-index g l = record {
  all : vec_len l.bytes ≡ l._index;
  each : All (λ b. length b.value.items ≡ g.K.Kind.SIZE) l.bytes.items;
  room : l.count ≤ vec_capacity l.bytes;
}
