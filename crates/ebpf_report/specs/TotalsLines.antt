-- What caches and shelves did, as it is written: the cache of each kind, and then each shelf that was used.
use Rattle.std.specs.Prelude.{ℕ, ◌+◌, ◌++◌, ◌==◌, if◌then◌else◌, List, [], ◌∷◌, codes, get_or}
use Rattle.object_cache.specs.declared.totals.Totals.{Totals}
use Rattle.worker_pool.specs.declared.outcome.ShelfTotals.{ShelfTotals}
use Rattle.ebpf_state.specs.Kinds.{kind_names}
use Rattle.ebpf_command.specs.declared.format.Format.{Format}
use Rattle.ebpf_command.specs.Members.{Said, Worded, Counted, line_in}
use Rattle.ebpf_report.specs.declared.totals_text.CacheCounts.{CacheCounts}

-- the name of a kind; of a kind that there isn't, nothing
abbrev pub kind_name : ℕ → List ℕ
kind_name kind = get_or kind_names kind []

-- what the cache of the kind of a name was asked for, and what came back to it
abbrev pub cache_said : (name : List ℕ) → CacheCounts → List Said
cache_said name c =
    Worded (codes "cache") name ∷ Counted (codes "allocs") c.allocs ∷ Counted (codes "frees") c.frees
    ∷ Counted (codes "nulls") c.nulls ∷ Counted (codes "missing") c.missing ∷ []

abbrev pub cache_line : Format → (name : List ℕ) → CacheCounts → List ℕ
cache_line format name c = line_in format (cache_said name c)

abbrev pub counts_of : Totals → CacheCounts
counts_of t = record { allocs = t.allocs; frees = t.frees; nulls = t.nulls; missing = t.missing }

-- the caches of the kinds from this one on
abbrev pub caches_from : Format → (kind : ℕ) → List Totals → List ℕ
caches_from format kind [] = []
caches_from format kind (t ∷ totals) = cache_line format (kind_name kind) (counts_of t) ++ caches_from format (kind + 1) totals

-- how many objects were put on a shelf and got from there, and how many it held at the end
abbrev pub shelf_said : (shelf : ℕ) → ShelfTotals → List Said
shelf_said shelf t =
    Counted (codes "shelf") shelf ∷ Counted (codes "puts") t.puts ∷ Counted (codes "gets") t.gets ∷ Counted (codes "left") t.left ∷ []

-- nothing if no object was put there
abbrev pub shelf_line : Format → (shelf : ℕ) → ShelfTotals → List ℕ
shelf_line format shelf t = if t.puts == 0 then [] else line_in format (shelf_said shelf t)

-- the shelves from this one on
abbrev pub shelves_from : Format → (shelf : ℕ) → List ShelfTotals → List ℕ
shelves_from format shelf [] = []
shelves_from format shelf (t ∷ totals) = shelf_line format shelf t ++ shelves_from format (shelf + 1) totals

abbrev pub totals_lines : Format → List Totals → List ShelfTotals → List ℕ
totals_lines format totals shelves = caches_from format 0 totals ++ shelves_from format 0 shelves
