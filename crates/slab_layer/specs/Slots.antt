-- Slabs as their callers see them: a finite map from slots to home or out. It is kept as a list of pages, by
-- their number, each with the places of its objects, by their index. A page that isn't had has none. A slot's
-- number is page * SLOTS_OF_A_PAGE + index.
use Rattle.std.specs.Prelude.{◌≡◌, ◌≢◌, ◌↔◌, ℕ, ◌+◌, ◌*◌, ◌/◌, ◌%◌, ◌<◌, ◌≤◌, Bool, true, false, cond, List, [], ◌∷◌, slice_get, slice_index_or}
use Rattle.std.specs.Prelude.{Option, Some, None, IsSome}
use Rattle.std.specs.List.{list_any}
use Rattle.slab_layer.specs.declared.kind.TheConstants.{SLOTS_OF_A_PAGE}
use Rattle.slab_layer.specs.declared.place.Place.{Place}
use Rattle.slab_layer.specs.declared.place.Place.TheVariants.{Home, Out}

abbrev pub Pages : Type 0
Pages = List (List Place)

-- where the object of a slot is, if these slabs have it
abbrev pub place_of : Pages → ℕ → Option Place
place_of pages slot = slice_get (slice_index_or pages (slot / SLOTS_OF_A_PAGE) []) (slot % SLOTS_OF_A_PAGE)

abbrev pub IsHome : Pages → ℕ → Type 0
IsHome pages slot = place_of pages slot ≡ Some Home

abbrev pub IsOut : Pages → ℕ → Type 0
IsOut pages slot = place_of pages slot ≡ Some Out

-- the page is had: its slots are there, the first among them
abbrev pub Has : Pages → ℕ → Type 0
Has pages page = IsSome (place_of pages (page * SLOTS_OF_A_PAGE))

abbrev pub is_home : Place → Bool
is_home Home = true
is_home Out = false

-- how many objects of a page are out
abbrev pub outs_in : List Place → ℕ
outs_in [] = 0
outs_in (p ∷ ps) = cond (is_home p) (outs_in ps) (1 + outs_in ps)

-- how many slots are out
abbrev pub out_count : Pages → ℕ
out_count [] = 0
out_count (ps ∷ pss) = outs_in ps + out_count pss

-- the page has an object that is home
abbrev pub has_home : List Place → Bool
has_home places = list_any is_home places

-- one slot has another place now, and no other slot
pub record Moves (old new : Pages) (slot : ℕ) (place : Place) : Type 0 where
  pub moved : place_of new slot ≡ Some place
  pub others : (x : ℕ) → x ≢ slot → place_of new x ≡ place_of old x

-- the page's first n slots are there and home, and nothing else changed
pub record AddsPage (old new : Pages) (page objects : ℕ) : Type 0 where
  pub added : (index : ℕ) → index < objects → IsHome new (page * SLOTS_OF_A_PAGE + index)
  pub only : (index : ℕ) → objects ≤ index → index < SLOTS_OF_A_PAGE → place_of new (page * SLOTS_OF_A_PAGE + index) ≡ None
  pub others : (x : ℕ) → x / SLOTS_OF_A_PAGE ≢ page → place_of new x ≡ place_of old x

-- the page's slots are gone, and nothing else changed
pub record RemovesPage (old new : Pages) (page : ℕ) : Type 0 where
  pub removed : (x : ℕ) → x / SLOTS_OF_A_PAGE ≡ page → place_of new x ≡ None
  pub others : (x : ℕ) → x / SLOTS_OF_A_PAGE ≢ page → place_of new x ≡ place_of old x

-- one slot is out that wasn't, and of the others the same are
pub record TakesOut (old new : Pages) (slot : ℕ) : Type 0 where
  pub was_in : IsOut old slot → ⊥
  pub out : IsOut new slot
  pub others : (x : ℕ) → x ≢ slot → IsOut new x ↔ IsOut old x
