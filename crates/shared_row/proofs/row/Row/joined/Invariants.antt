use Rattle.std.proofs.Common.{◌≡◌, ◌+◌, ◌<◌, [], vec_len, All}
use Rattle.std.specs.Prelude.{sum_by}
use Rattle.shared_row.specs.Views.{IsIdleAt}
use Rattle.shared_row.proofs.row.Row.joined.Given as goal

abbrev pub invariant-loop-other : goal.invariant-loop-other
invariant-loop-other g l = record {
  table : l.all.table_id ≡ l.fn.self.table;
  bare : l.all.me.1 ≡ [];
  held : l.all.me.0.held ≡ [];
  some : 0 < l.all.me.0.parts;
  parts : l.all.me.0.parts + sum_by (λ p. p.parts) l.passes.items ≡ sum_by (λ p. p.parts) l.fn.passes.items;
  left : l.all.me.0.left + sum_by (λ p. p.left) l.passes.items ≡ sum_by (λ p. p.left) l.fn.passes.items;
  right : l.all.me.0.right + sum_by (λ p. p.right) l.passes.items ≡ sum_by (λ p. p.right) l.fn.passes.items;
  rest : All (IsIdleAt l.fn.self.table) l.passes.items;
}

abbrev pub decreases-loop-other : goal.decreases-loop-other
decreases-loop-other g l = vec_len l.passes
