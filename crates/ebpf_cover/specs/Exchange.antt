-- A call of swap, in the table of slots that its store granted.
use Rattle.std.specs.Prelude.{◌≡◌, ◌≢◌, ◌+◌, ℕ, List, Option, IfSome}
use Rattle.ebpf_shelves.specs.declared.object.Object.{Object}
use Rattle.ebpf_machine.specs.Store.{one_of}
use Rattle.ebpf_shelves.specs.declared.store.Entry.{Entry}
use Rattle.ebpf_shelves.specs.Store.{IsOut, out_of_kind}

-- what is got, if it is an object, is out from then on, in a slot of its own; what is given is no longer out; all else stays out
pub record IsExchange (given got : Option Object) (shelf : ℕ) (old new : List Entry) : Type 0 where
  pub out : IfSome got (λ h. IsOut new h × (h.kind ≡ shelf))
  pub apart : IfSome got (λ h. (other : Object) → IsOut old other → other.slot ≢ h.slot)
  pub outs : (k : ℕ) → out_of_kind new k + one_of given shelf k ≡ out_of_kind old k + one_of got shelf k
  pub gone : IfSome given (λ g. IsOut new g → ⊥)
  pub others : (other : Object) → IsOut old other → IfSome given (λ g. other.slot ≢ g.slot) → IsOut new other
