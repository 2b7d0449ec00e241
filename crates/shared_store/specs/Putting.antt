-- What a host does that leaves an object on a shelf.
use Rattle.std.specs.Prelude.{◌≡◌, ◌+◌, ℕ, Bool, length, if◌then◌else◌}
use Rattle.ebpf_object.specs.declared.kind_name.KindName.{KindName}
use Rattle.ebpf_object.specs.KindName.{number_of}
use Rattle.shared_store.specs.Tools.{HaveAnswered, ToolsView, held_at, puts_at}

-- as many slots of each kind are held
abbrev pub HoldAsMuch : ToolsView → ToolsView → Type 0
HoldAsMuch old new = (kind : ℕ) → length (held_at new kind) ≡ length (held_at old kind)

-- one object more was granted and put on the shelf of the kind, and what was there was got, if anything was
pub record HasPut (old new : ToolsView) (kind : KindName) (another : Bool) : Type 0 where
  pub answered : HaveAnswered old new 1 0 (if another then 1 else 0)
  pub puts : puts_at new (number_of kind) ≡ puts_at old (number_of kind) + 1
