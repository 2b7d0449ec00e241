-- A stock of which a slot is taken, and to which one is given back.
use Rattle.std.proofs.Common.{◌≡◌, ◌≢◌, ℕ, ◌+◌, ◌≤◌, Option, Some, None, sym, ap, subst, arith}
use Rattle.std.specs.Prelude.{IfSome, option_map}
use Rattle.slab_layer.specs.Slots.{Pages, IsOut, TakesOut, out_count}
use Rattle.ebpf_host.specs.Stock.{StockView, Shelved, Takes, one_if}

pub one_at_most : {X : Type 0} (o : Option X) → one_if o ≤ 1
one_at_most None = omega arith
one_at_most (Some x) = omega arith

-- what is on the shelf isn't in a slot that wasn't out
off_shelf : (s : StockView) (slot : ℕ) → IfSome s.shelf (λ o. IsOut s.pages o.slot) → (IsOut s.pages slot → ⊥) → IfSome s.shelf (λ o. o.slot ≢ slot)
off_shelf s slot standing free = by s.shelf standing where
  by : (x : Option Shelved) → IfSome x (λ o. IsOut s.pages o.slot) → IfSome x (λ o. o.slot ≢ slot)
  by None out = tt
  by (Some o) out = λ same. free (subst (IsOut s.pages) same out)

pub takes_as : (old new : StockView) (slot : ℕ) → IfSome old.shelf (λ o. IsOut old.pages o.slot) → new.shelf ≡ old.shelf
    → TakesOut old.pages new.pages slot → out_count new.pages ≡ out_count old.pages + 1 → Takes old new slot
takes_as old new slot standing same taken counts = record {
  held = record { out = taken.out; off = subst (λ (s : Option Shelved). IfSome s (λ o. o.slot ≢ slot)) (sym same) (off_shelf old slot standing taken.was_in) };
  fresh = λ held. taken.was_in held.out;
  others = λ x held. record {
    out = (taken.others x (λ at. taken.was_in (subst (IsOut old.pages) at held.out))).1 held.out;
    off = subst (λ (s : Option Shelved). IfSome s (λ o. o.slot ≢ x)) (sym same) held.off;
  };
  counted = let one = ap (λ (s : Option Shelved). one_if s) same in let few = one_at_most old.shelf in omega (arith, counts, one, few);
  shelf = same;
}

-- what is on a shelf stays out when another slot is taken, and when a page is reaped
pub stands_taken : {X : Type 0} (slot_of : X → ℕ) (shelf : Option X) (old new : Pages) (slot : ℕ) → TakesOut old new slot
    → IfSome shelf (λ o. IsOut old (slot_of o)) → IfSome shelf (λ o. IsOut new (slot_of o))
stands_taken slot_of None old new slot taken standing = tt
stands_taken slot_of (Some o) old new slot taken standing = (taken.others (slot_of o) (λ same. taken.was_in (subst (IsOut old) same standing))).1 standing

-- what is said of the slot of what is on a shelf, however it is named
pub told : {X : Type 0} (shelf : Option X) (f : X → Shelved) (P : ℕ → Type 0) → IfSome shelf (λ o. P (f o).slot) → IfSome (option_map f shelf) (λ o. P o.slot)
told None f P stands = tt
told (Some o) f P stands = stands
