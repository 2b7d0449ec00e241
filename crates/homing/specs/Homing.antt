-- Slots that come home to slabs.
use Rattle.std.specs.Prelude.{◌≡◌, ℕ, List, Contains}
use Rattle.slab_layer.specs.Slots.{Pages, place_of, IsHome, IsOut}

-- those of these slots that were out are home, and nothing else changed
pub record SendsHome (old new : Pages) (slots : List ℕ) : Type 0 where
  pub home : (x : ℕ) → Contains slots x → IsOut old x → IsHome new x
  pub others : (x : ℕ) → (Contains slots x → IsOut old x → ⊥) → place_of new x ≡ place_of old x
