use Rattle.std.proofs.Common.{◌≡◌, ◌-◌, ◌≤◌, [], vec_len, All}
use Rattle.std.specs.Vec.{vec_capacity}
use Rattle.shared_row.specs.Weighing.{first_sheet}
use Rattle.shared_row.specs.Views.{fresh_pass}
use Rattle.shared_row.proofs.row.dealt.Given as goal

abbrev pub invariant-loop-i : goal.invariant-loop-i
invariant-loop-i g l = record {
  table : l.rest.table_id ≡ l.row.table;
  sheet : l.rest.me.0 ≡ first_sheet (l.passes - l._i);
  bare : l.rest.me.1 ≡ [];
  len : vec_len l.all ≡ l._i;
  room : l.passes ≤ vec_capacity l.all;
  all : All (λ p. p ≡ fresh_pass l.row.table) l.all.items;
}
