use Rattle.std.proofs.Common.{◌≡◌, vec_len, All}
use Rattle.std.specs.Vec.{vec_capacity}
use Rattle.shared_store.specs.Tools.{AreAtHome}
use Rattle.shared_store.proofs.calling_in.sent_back.Given as goal

abbrev pub invariant-loop-home : goal.invariant-loop-home
invariant-loop-home l = record {
  pairs : vec_len l.homes ≡ vec_len l.tools;
  tools : All (AreAtHome l.house.commons) l.tools.items;
  homes : All (λ h. h.table ≡ l.house.homes.table) l.homes.items;
  capacity : (vec_capacity l.tools ≡ vec_capacity l.initial.tools) × (vec_capacity l.homes ≡ vec_capacity l.initial.homes);
}

abbrev pub decreases-loop-home : goal.decreases-loop-home
decreases-loop-home l = vec_len l.homes
