-- What is offered to the shelf of a kind.
use Rattle.std.specs.Prelude.{ℕ, Option, option_map}
use Rattle.ebpf_object.specs.declared.object.Object.{Object}
use Rattle.ebpf_object.specs.declared.object.Object.TheVariants.{Cell, Record, Block}
use Rattle.ebpf_object.specs.declared.offer.Offer.{Offer}
use Rattle.ebpf_object.specs.declared.offer.Offer.TheVariants.{Cells, Records, Blocks}

-- the number of the shelf's kind
abbrev pub shelf_of : Offer → ℕ
shelf_of (Cells o) = 0
shelf_of (Records o) = 1
shelf_of (Blocks o) = 2

-- the object that is offered, if there is one
abbrev pub object_of : Offer → Option Object
object_of (Cells o) = option_map Cell o
object_of (Records o) = option_map Record o
object_of (Blocks o) = option_map Block o
