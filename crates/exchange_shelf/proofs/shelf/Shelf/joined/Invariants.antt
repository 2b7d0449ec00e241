use Rattle.std.proofs.Common.{◌≡◌, ◌+◌, ◌<◌, [], vec_len, All}
use Rattle.std.specs.Prelude.{◌%◌, ◌^◌, sum_by}
use Rattle.exchange_shelf.proofs.shelf.Shelf.joined.Given as goal

abbrev pub invariant-loop-other : goal.invariant-loop-other
invariant-loop-other g l = record {
  table : l.all.seat.table_id ≡ l.fn.self.table;
  bare : l.all.seat.me.1 ≡ [];
  held : l.all.seat.me.0.held ≡ [];
  some : 0 < l.all.seat.me.0.parts;
  parts : l.all.seat.me.0.parts + sum_by (λ h. h.parts) l.hands.items ≡ sum_by (λ h. h.parts) l.fn.hands.items;
  puts : l.all.seat.me.0.puts + sum_by (λ h. h.puts) l.hands.items ≡ sum_by (λ h. h.puts) l.fn.hands.items;
  gets : l.all.seat.me.0.gets + sum_by (λ h. h.gets) l.hands.items ≡ sum_by (λ h. h.gets) l.fn.hands.items;
  put_count : l.all.puts ≡ l.all.seat.me.0.puts % 2 ^ 64;
  get_count : l.all.gets ≡ l.all.seat.me.0.gets % 2 ^ 64;
  rest : All (λ h. h.table ≡ l.fn.self.table) l.hands.items;
}

abbrev pub decreases-loop-other : goal.decreases-loop-other
decreases-loop-other g l = vec_len l.hands
