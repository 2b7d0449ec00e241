use Rattle.std.proofs.Common.{◌≡◌, ◌+◌, ◌≤◌, vec_len, All}
use Rattle.std.specs.Vec.{vec_capacity}
use Rattle.shared_row.specs.Views.{fresh_pass}
use Rattle.shared_store.specs.Making.{IsUnused}
use Rattle.shared_store.specs.Tools.{AreAtHome}
use Rattle.shared_store.proofs.opening.assembled.Given as goal

abbrev pub invariant-loop-pages : goal.invariant-loop-pages
invariant-loop-pages l = record {
  passes : All (λ p. p ≡ fresh_pass l.commons.base.arena.table) l.passes.items;
  cells : (vec_len l.cells ≡ vec_len l.passes) × All (IsUnused l.commons.cells l.commons.base.owners) l.cells.items;
  records : (vec_len l.records ≡ vec_len l.passes) × All (IsUnused l.commons.records l.commons.base.owners) l.records.items;
  blocks : (vec_len l.blocks ≡ vec_len l.passes) × All (IsUnused l.commons.blocks l.commons.base.owners) l.blocks.items;
  all : All (AreAtHome l.commons) l.all.items;
  len : vec_len l.all + vec_len l.passes ≡ vec_len l.fn.passes;
  room : vec_len l.fn.passes ≤ vec_capacity l.all;
}

abbrev pub decreases-loop-pages : goal.decreases-loop-pages
decreases-loop-pages l = vec_len l.passes
