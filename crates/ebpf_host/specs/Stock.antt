-- The objects of one kind: the slots of its slabs, and a shelf.
use Rattle.std.specs.Prelude.{◌≡◌, ◌≢◌, ◌+◌, ◌-◌, ℕ, List, Option, Some, None, IfSome}
use Rattle.slab_layer.specs.Slots.{Pages, IsOut, out_count}
pub use Rattle.ebpf_machine.specs.World.{Shelved}

-- where its slots are, and what is on its shelf
pub record StockView : Type 0 where
  pub pages : Pages
  pub shelf : Option Shelved

-- an object of a slot, with its bytes, as it is on a shelf
abbrev pub shelved_at : ℕ → List ℕ → Shelved
shelved_at slot bytes = record { slot = slot; bytes = bytes }

-- a run holds a slot: it is out of the slabs, and isn't that of what is on the shelf
pub record IsHeld (s : StockView) (slot : ℕ) : Type 0 where
  pub out : IsOut s.pages slot
  pub off : IfSome s.shelf (λ o. o.slot ≢ slot)

abbrev pub one_if : {X : Type 0} → Option X → ℕ
one_if None = 0
one_if (Some x) = 1

-- how many slots runs hold, counted from one on, since what is on the shelf is out and held by none
abbrev pub held_count : StockView → ℕ
held_count s = (out_count s.pages + 1) - one_if s.shelf

-- a slot more is held, which wasn't; the shelf stays
pub record Takes (old new : StockView) (slot : ℕ) : Type 0 where
  pub held : IsHeld new slot
  pub fresh : IsHeld old slot → ⊥
  pub others : (x : ℕ) → IsHeld old x → IsHeld new x
  pub counted : held_count new ≡ held_count old + 1
  pub shelf : new.shelf ≡ old.shelf

-- a slot is no longer held; the shelf stays
pub record Gives (old new : StockView) (slot : ℕ) : Type 0 where
  pub before : (x : ℕ) → IsHeld new x → IsHeld old x × (x ≢ slot)
  pub others : (x : ℕ) → IsHeld old x → x ≢ slot → IsHeld new x
  pub counted : held_count new + 1 ≡ held_count old
  pub shelf : new.shelf ≡ old.shelf

-- what is given is on the shelf in place of what is got; the slabs stay
pub record Exchanges (old new : StockView) (given got : Option Shelved) : Type 0 where
  pub got_is : got ≡ old.shelf
  pub given_is : new.shelf ≡ given
  pub pages : new.pages ≡ old.pages
  pub out : IfSome got (λ o. IsOut old.pages o.slot)
