-- The kind, the slot and the bytes of an object of any kind.
use Rattle.std.specs.Prelude.{◌≡◌, ◌+◌, ◌*◌, ◌<◌, ℕ, List, length}
use Rattle.std.proofs.Common.{suc-le-suc, zero-le}
use Rattle.ebpf_machine.specs.World.{image_at}
use Rattle.ebpf_machine.specs.Kinds.{known_kinds}
use Rattle.ebpf_object.specs.declared.object.Object.{Object}
use Rattle.ebpf_object.specs.declared.object.Object.TheVariants.{Cell, Record, Block}

abbrev pub kind_of : Object → ℕ
kind_of (Cell o) = 0
kind_of (Record o) = 1
kind_of (Block o) = 2

abbrev pub slot_of : Object → ℕ
slot_of (Cell o) = o.slot
slot_of (Record o) = o.slot
slot_of (Block o) = o.slot

abbrev pub bytes_of : Object → List ℕ
bytes_of (Cell o) = o.bytes.value.items
bytes_of (Record o) = o.bytes.value.items
bytes_of (Block o) = o.bytes.value.items

-- each object has its kind's size, and is of a kind that there is
pub has_size : (o : Object) → (length (bytes_of o) ≡ length (image_at known_kinds (kind_of o))) × (kind_of o < length known_kinds)
has_size (Cell o) = (o.sized, suc-le-suc zero-le)
has_size (Record o) = (o.sized, suc-le-suc (suc-le-suc zero-le))
has_size (Block o) = (o.sized, suc-le-suc (suc-le-suc (suc-le-suc zero-le)))

-- one number for a kind and a slot: no two objects of different kinds have it in common
abbrev pub number_in : ℕ → ℕ → ℕ
number_in kind slot = 3 * slot + kind

abbrev pub number_of : Object → ℕ
number_of o = number_in (kind_of o) (slot_of o)
