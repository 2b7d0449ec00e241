-- What slabs keep beside their pages: which have an object that is home, and how many objects are out.
use Rattle.std.specs.Prelude.{◌≡◌, ◌⊎◌, ℕ, ◌<◌, ◌≤◌, List, [], length, slice_index, slice_index_or}
use Rattle.vmem_arena.specs.declared.arena.TheConstants.{MAX_PAGES}
use Rattle.slab_layer.specs.declared.kind.TheConstants.{SLOTS_OF_A_PAGE}
use Rattle.slab_layer.specs.Stacks.{HasSame, selected}
use Rattle.slab_layer.specs.Slots.{Pages, has_home, out_count}

-- pages by their number, the number that each slab has noted, the stack of pages with an object at home, and
-- the number of objects that are out
pub record IsPartialStack (pages : Pages) (numbers partial : List ℕ) (out : ℕ) : Type 0 where
  pub sized : (length pages ≡ 0) ⊎ (length pages ≡ MAX_PAGES)
  pub small : (page : ℕ) → length (slice_index_or pages page []) ≤ SLOTS_OF_A_PAGE
  pub numbered : (page : ℕ) → page < length pages → slice_index numbers page ≡ page
  pub stacked : HasSame partial (selected has_home 0 pages)
  pub counted : out ≡ out_count pages
