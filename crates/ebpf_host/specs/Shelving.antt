-- What a host puts on the shelf of a kind, and takes from there.
use Rattle.std.specs.Prelude.{◌≡◌, ◌<◌, ◌≤◌, ℕ, Bool, List, length, Option, Some, None, option_map, is_some}
use Rattle.std.specs.Option.{MatchOption}
use Rattle.slab_layer.specs.Images.{patched}
use Rattle.ebpf_machine.specs.Kinds.{known_kinds}
use Rattle.ebpf_machine.specs.World.{image_at}
use Rattle.ebpf_object.specs.declared.kind_name.KindName.{KindName}
use Rattle.ebpf_object.specs.KindName.{number_of}
use Rattle.ebpf_host.specs.declared.shelving.PutFault.{PutFault}
use Rattle.ebpf_host.specs.declared.shelving.PutFault.TheVariants.{TooLong, NoObject}
use Rattle.ebpf_host.specs.declared.stocks.Stocks.{Stocks}
use Rattle.ebpf_host.specs.Copying.{copied}
use Rattle.ebpf_host.specs.Stock.{Shelved}
use Rattle.ebpf_host.specs.Stocks.{OthersStay, held_of, stock_of}

-- an object of this image is there, with these bytes over its first ones, and what is said is whether it is there in place of another
pub record IsPut (image bytes : List ℕ) (old new : Option Shelved) (replaced : Bool) : Type 0 where
  pub there : option_map (λ o. o.bytes) new ≡ Some (patched image 0 bytes)
  pub another : replaced ≡ is_some old

-- nothing is there, and what is said is whether something was: its bytes are copied
pub record IsFetched (found : Bool) (old new : Option Shelved) (room filled : List ℕ) : Type 0 where
  pub none : new ≡ None
  pub some : found ≡ is_some old
  pub bytes : MatchOption old (filled ≡ room) (λ o. filled ≡ copied o.bytes room)

-- what is on each shelf stays there
abbrev pub ShelvesStay : Stocks → Stocks → Type 0
ShelvesStay old new = (kind : ℕ) → (stock_of new kind).shelf ≡ (stock_of old kind).shelf

-- the stocks of the other kinds are as they were, and of this one runs hold as many objects
pub record ShelfChanges (old new : Stocks) (kind : KindName) : Type 0 where
  pub others : OthersStay old new (number_of kind)
  pub held : held_of new (number_of kind) ≡ held_of old (number_of kind)

-- what is on the shelf of a kind
abbrev pub on_shelf : Stocks → KindName → Option Shelved
on_shelf s kind = (stock_of s (number_of kind)).shelf

-- the image of a kind
abbrev pub image_of : KindName → List ℕ
image_of kind = image_at known_kinds (number_of kind)

-- why there is no object with these bytes on a shelf: it has fewer of them, or there is none to be had
abbrev pub IsPutFault : KindName → (length : ℕ) → PutFault → Type 0
IsPutFault kind len TooLong = length (image_of kind) < len
IsPutFault kind len NoObject = len ≤ length (image_of kind)
