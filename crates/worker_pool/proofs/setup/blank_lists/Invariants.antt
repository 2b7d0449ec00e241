use Rattle.std.proofs.Common.{◌≡◌, ◌≤◌, All, length}
use Rattle.std.specs.Vec.{vec_capacity}
use Rattle.worker_pool.specs.Numbering.{IsBlank}
use Rattle.worker_pool.proofs.setup.blank_lists.Given as goal

abbrev pub invariant-loop-list : goal.invariant-loop-list
invariant-loop-list l = record {
  len : length l.lists.items ≡ l._list;
  room : l.count ≤ vec_capacity l.lists;
  empty : All IsBlank l.lists.items;
}
