-- The slabs of a kind, in a table by the number of their page.
use Rattle.std.specs.Prelude.{ℕ, ◌<◌, List, map, length}
use Rattle.slab_layer.specs.declared.kind.Kind.{Ghosts}
use Rattle.slab_layer.specs.declared.place.Place.{Place}
use Rattle.slab_layer.specs.declared.slab.Slab.{Slab}
use Rattle.slab_layer.specs.Slots.{Pages, outs_in}
use Rattle.slab_layer.specs.PartialStack.{IsPartialStack}

-- where a slab's objects are, by their index
abbrev pub places_of : {K : Type 0} {k : Ghosts K} → Slab K k → List Place
places_of s = s.places.items

abbrev pub page_of : {K : Type 0} {k : Ghosts K} → Slab K k → ℕ
page_of s = s.page

abbrev pub pages_in : {K : Type 0} {k : Ghosts K} → List (Slab K k) → Pages
pages_in slabs = map places_of slabs

-- what slabs keep beside their table: the stack of pages with an object at home, and how many objects are out
abbrev pub IsSlabTable : {K : Type 0} {k : Ghosts K} → List (Slab K k) → List ℕ → ℕ → Type 0
IsSlabTable slabs partial out = IsPartialStack (pages_in slabs) (map page_of slabs) partial out

-- a slab that has its page has an object that is out
abbrev pub IsBusy : {K : Type 0} {k : Ghosts K} → Slab K k → Type 0
IsBusy s = 0 < length (places_of s) → 0 < outs_in (places_of s)
