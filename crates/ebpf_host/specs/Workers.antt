-- What a host takes by a worker from the shelves that all share.
use Rattle.std.specs.Prelude.{◌≡◌, ℕ, Bool, true, false, List, length, if◌then◌else◌}
use Rattle.ebpf_machine.specs.Kinds.{known_kinds}
use Rattle.ebpf_machine.specs.World.{image_at}
use Rattle.ebpf_host.specs.Copying.{copied}
use Rattle.shared_store.specs.Tools.{HaveAnswered, ToolsView}

-- an object of the kind with these bytes was there, and they are copied; or none was, and the room is as it was
abbrev pub IsCopied : (kind : ℕ) → Bool → (room filled : List ℕ) → Type 0
IsCopied kind true room filled = (bytes : List ℕ) × (length bytes ≡ length (image_at known_kinds kind)) × (filled ≡ copied bytes room)
IsCopied kind false room filled = filled ≡ room

-- the worker got what was on the shelf of the kind, if anything was, and gave it back
pub record HasTaken (old new : ToolsView) (kind : ℕ) (found : Bool) (room filled : List ℕ) : Type 0 where
  pub answered : HaveAnswered old new 0 0 (if found then 1 else 0)
  pub bytes : IsCopied kind found room filled
