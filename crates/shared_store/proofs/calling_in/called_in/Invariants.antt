use Rattle.std.proofs.Common.{◌≡◌, vec_len, All}
use Rattle.std.specs.Vec.{vec_capacity}
use Rattle.shared_store.specs.Tools.{AreAtHome}
use Rattle.shared_store.proofs.calling_in.called_in.Given as goal

abbrev pub invariant-loop-worker : goal.invariant-loop-worker
invariant-loop-worker l = record {
  pairs : vec_len l.homes ≡ vec_len l.tools;
  len : vec_len l.tools ≡ l.worker;
  tools : All (AreAtHome l.house.commons) l.tools.items;
  homes : All (λ h. h.table ≡ l.house.homes.table) l.homes.items;
  capacity : (vec_capacity l.tools ≡ vec_capacity l.initial.tools) × (vec_capacity l.homes ≡ vec_capacity l.initial.homes);
}
