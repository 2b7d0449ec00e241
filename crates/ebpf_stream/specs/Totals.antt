-- What a machine's caches and shelves did, as it is written at the end.
use Rattle.std.specs.Prelude.{◌≡◌, ℕ, ◌++◌, List, [], ◌∷◌, is_some, Option}
use Rattle.std.specs.Int.{from_bool}
use Rattle.ebpf_command.specs.declared.format.Format.{Format}
use Rattle.ebpf_report.specs.declared.totals_text.CacheCounts.{CacheCounts}
use Rattle.ebpf_report.specs.TotalsLines.{cache_line, kind_name, shelves_from}
use Rattle.ebpf_stream.specs.declared.totals.KindTotals.{KindTotals}
use Rattle.ebpf_stream.specs.declared.totals.MachineTotals.{MachineTotals}

-- no object is missing from its cache
abbrev pub counts_in : KindTotals → CacheCounts
counts_in t = record { allocs = t.allocs; frees = t.frees; nulls = t.nulls; missing = 0 }

abbrev pub caches_in : Format → MachineTotals → List ℕ
caches_in format t =
    cache_line format (kind_name 0) (counts_in t.cells) ++ (cache_line format (kind_name 1) (counts_in t.records) ++ cache_line format (kind_name 2) (counts_in t.blocks))

abbrev pub shelves_in : Format → MachineTotals → List ℕ
shelves_in format t = shelves_from format 0 (t.cells.shelf ∷ t.records.shelf ∷ t.blocks.shelf ∷ [])

-- as `run` writes them
abbrev pub totals_in : Format → MachineTotals → List ℕ
totals_in format t = caches_in format t ++ shelves_in format t

-- what is left on a shelf at the end is what is there: an object with these bytes, or nothing
abbrev pub TellsLeft : Option (List ℕ) → KindTotals → Type 0
TellsLeft bytes t = t.shelf.left ≡ from_bool (is_some bytes)

-- on each of these shelves
pub record TellAllLeft (shelves : ℕ → Option (List ℕ)) (t : MachineTotals) : Type 0 where
  pub cells : TellsLeft (shelves 0) t.cells
  pub records : TellsLeft (shelves 1) t.records
  pub blocks : TellsLeft (shelves 2) t.blocks
