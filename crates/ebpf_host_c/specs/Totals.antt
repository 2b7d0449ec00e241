-- What C is given of the totals of what workers shared.
use Rattle.std.specs.Prelude.{◌≡◌, List}
use Rattle.shared_store.specs.Closing.{AreTotals}
use Rattle.shared_store.specs.Tools.{ToolsView}
use Rattle.shared_store.specs.declared.totals.KindTotals.{KindTotals}
use Rattle.shared_store.specs.declared.totals.SharedTotals.{SharedTotals}
use Rattle.ebpf_host_c.specs.declared.totals.OfKind.{OfKind}
use Rattle.ebpf_host_c.specs.declared.totals.Totals.{Totals}

-- of one kind
abbrev pub told : KindTotals → OfKind
told t = record {
  allocs = t.allocs;
  frees = t.frees;
  nulls = t.nulls;
  busy = t.busy;
  missing = t.missing;
  foreign = t.foreign;
  puts = t.puts;
  gets = t.gets;
  left = t.left;
}

-- the totals are those of some workers' tools
pub record AreTold (filled : Totals) : Type 0 where
  pub all : List ToolsView
  pub totals : SharedTotals
  pub are : AreTotals all totals
  pub cells : filled.cells ≡ told are.cells
  pub records : filled.records ≡ told are.records
  pub blocks : filled.blocks ≡ told are.blocks
  pub clashes : filled.clashes ≡ totals.clashes
  pub strays : filled.strays ≡ totals.strays
