-- What a worker takes objects of one kind with, and what it was answered.
use Rattle.std.specs.Prelude.{◌≡◌, ◌⊎◌, ◌+◌, ◌-◌, ◌≤◌, ◌^◌, ℕ, length, Option, Some, None}
use Rattle.owners_table.specs.Owning.{SeatView, OwnersView}
use Rattle.exchange_shelf.specs.Views.{ShelfView}
use Rattle.exchange_shelf.specs.Views as shelf
use Rattle.shared_cache.specs.CacheView.{CacheView}
use Rattle.shared_cache.specs.HandView.{HandView}
use Rattle.ebpf_owned.specs.Claims.{lost, Once}

-- a cache and a shelf of one kind
pub record SupplyView : Type 0 where
  pub cache : CacheView
  pub shelf : ShelfView

-- A hand at the cache, one at the shelf, and a seat at the table of owners. Clashes are objects that the hand was given and that went back since
-- their slots had an owner; strays came off the shelf and went back since the table had their slots as another's
pub record StockView : Type 0 where
  pub hand : HandView
  pub shelf_hand : shelf.HandView
  pub seat : SeatView
  pub clashes : ℕ
  pub strays : ℕ

-- The hand has lent as many objects as the seat holds slots, each of them once. What it left to others was put on the shelf, and what it took over
-- came from there. The seat noted a claim for each object that the hand was given, and a fetch for each that it took over
pub record IsStock (s : StockView) : Type 0 where
  pub lent : s.hand.counts.lent ≡ length s.seat.held
  pub once : Once s.seat.held
  pub even : s.hand.counts.lent + s.hand.counts.frees + s.hand.counts.passed ≡ s.hand.counts.allocs + s.hand.counts.adopted
  pub shelved : (s.hand.counts.passed ≡ s.shelf_hand.puts) × (s.hand.counts.adopted ≡ s.shelf_hand.gets)
  pub noted : length s.seat.notes ≡ s.hand.counts.allocs
  pub fetched : length s.seat.fetches ≡ s.hand.counts.adopted
  pub clashed : (s.clashes ≡ lost s.seat.notes) × (s.clashes ≤ s.hand.counts.allocs)
  pub strayed : s.strays ≤ s.hand.counts.adopted
  pub few : (s.hand.counts.allocs ≤ 2 ^ 56) × (s.hand.counts.adopted ≤ 2 ^ 56)
  pub part : s.shelf_hand.parts ≡ 1

-- its hands are those of the supply, and its seat is at the table
pub record IsOf (supply : SupplyView) (owners : OwnersView) (s : StockView) : Type 0 where
  pub hand : s.hand.table ≡ supply.cache.table
  pub shelf_hand : s.shelf_hand.table ≡ supply.shelf.table
  pub seat : s.seat.table ≡ owners.table

-- how many calls of new were granted an object: all that the hand was given, but for those that went back since their slots had an owner
abbrev pub granted_by : StockView → ℕ
granted_by s = s.hand.counts.allocs - s.clashes

-- how many calls of new were answered null
abbrev pub refused_by : StockView → ℕ
refused_by s = s.hand.counts.nulls + s.hand.counts.busy + s.clashes

-- how many calls of swap were answered with an object: all that came off the shelf, but for strays
abbrev pub fetched_by : StockView → ℕ
fetched_by s = s.shelf_hand.gets - s.strays

-- it is at the same supply and table
pub record Stays (old new : StockView) : Type 0 where
  pub hand : new.hand.table ≡ old.hand.table
  pub shelf_hand : new.shelf_hand.table ≡ old.shelf_hand.table
  pub seat : new.seat.table ≡ old.seat.table

-- a count went on by so many, or has come to its end
abbrev pub CountsOn : (old new by : ℕ) → Type 0
CountsOn old new by = (old ≤ new) × ((new ≡ old + by) ⊎ (2 ^ 56 ≤ new))

-- that many calls of new were granted an object and refused one, and that many of swap were given one
pub record Answers (old new : StockView) (granted refused fetched : ℕ) : Type 0 where
  pub stays : Stays old new
  pub granted_are : granted_by new ≡ granted_by old + granted
  pub refused_are : CountsOn (refused_by old) (refused_by new) refused
  pub fetched_are : fetched_by new ≡ fetched_by old + fetched

-- nothing counts one, and an object none
abbrev pub none_if : {X : Type 0} → Option X → ℕ
none_if None = 1
none_if (Some x) = 0
