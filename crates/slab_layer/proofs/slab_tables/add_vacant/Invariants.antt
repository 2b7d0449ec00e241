use Rattle.std.proofs.Common.{◌≡◌, ℕ, ◌≤◌, ◌<◌, [], map, vec_len, vec_capacity}
use Rattle.std.specs.Prelude.{slice_index, slice_index_or}
use Rattle.slab_layer.specs.SlabTable.{page_of, pages_in}
use Rattle.slab_layer.proofs.slab_tables.add_vacant.Given as goal

abbrev pub invariant-loop-page : goal.invariant-loop-page
invariant-loop-page g l = record {
  all : vec_len l.slabs ≡ l.page;
  room : 256 ≤ vec_capacity l.slabs;
  vacant : (page : ℕ) → slice_index_or (pages_in l.slabs.items) page [] ≡ [];
  numbered : (page : ℕ) → page < l.page → slice_index (map page_of l.slabs.items) page ≡ page;
}
