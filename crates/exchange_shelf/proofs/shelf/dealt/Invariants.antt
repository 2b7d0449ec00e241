use Rattle.std.proofs.Common.{◌≡◌, ◌-◌, ◌≤◌, [], vec_len, All}
use Rattle.std.specs.Vec.{vec_capacity}
use Rattle.exchange_shelf.specs.Passing.{first_sheet}
use Rattle.exchange_shelf.specs.Views.{fresh_hand}
use Rattle.exchange_shelf.proofs.shelf.dealt.Given as goal

abbrev pub invariant-loop-place : goal.invariant-loop-place
invariant-loop-place g l = record {
  table : l.rest.table_id ≡ l.shelf.table;
  sheet : l.rest.me.0 ≡ first_sheet (l.hands - l.place) l.place;
  bare : l.rest.me.1 ≡ [];
  len : vec_len l.all ≡ l.place;
  room : l.hands ≤ vec_capacity l.all;
  all : All (λ h. h ≡ fresh_hand l.shelf.table) l.all.items;
}
