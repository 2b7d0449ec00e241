-- The numbers of the kinds.
use Rattle.std.specs.Prelude.{ℕ}
use Rattle.ebpf_object.specs.declared.kind_name.KindName.{KindName}
use Rattle.ebpf_object.specs.declared.kind_name.KindName.TheVariants.{Cell, Record, Block}

abbrev pub number_of : KindName → ℕ
number_of Cell = 0
number_of Record = 1
number_of Block = 2
