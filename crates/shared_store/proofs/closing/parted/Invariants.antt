use Rattle.std.proofs.Common.{◌≡◌, ◌+◌, ◌≤◌, vec_len, All}
use Rattle.std.specs.Vec.{vec_capacity}
use Rattle.shared_store.specs.Parting.{IsOnePass}
use Rattle.shared_store.specs.Tools.{AreAtHome}
use Rattle.shared_store.proofs.Parting.{AreSome}
use Rattle.shared_store.proofs.closing.parted.Given as goal

abbrev pub invariant-loop-tools : goal.invariant-loop-tools
invariant-loop-tools l = record {
  home : All (AreAtHome l.commons) l.all.items;
  passes : All (IsOnePass l.commons.base.arena) l.passes.items × (vec_len l.passes + vec_len l.all ≡ vec_len l.fn.all);
  cells : AreSome l.commons.cells l.commons.base.owners (λ t. t.cells) l.fn.all.items l.all.items l.cells.items;
  records : AreSome l.commons.records l.commons.base.owners (λ t. t.records) l.fn.all.items l.all.items l.records.items;
  blocks : AreSome l.commons.blocks l.commons.base.owners (λ t. t.blocks) l.fn.all.items l.all.items l.blocks.items;
  lens : (vec_len l.cells ≡ vec_len l.passes) × (vec_len l.records ≡ vec_len l.passes) × (vec_len l.blocks ≡ vec_len l.passes);
  room : (vec_len l.fn.all ≤ vec_capacity l.passes) × (vec_len l.fn.all ≤ vec_capacity l.cells)
      × (vec_len l.fn.all ≤ vec_capacity l.records) × (vec_len l.fn.all ≤ vec_capacity l.blocks);
}

abbrev pub decreases-loop-tools : goal.decreases-loop-tools
decreases-loop-tools l = vec_len l.all
