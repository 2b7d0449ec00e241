-- What contracts see of a place.
use Rattle.std.specs.Prelude.{◌≡◌, ℕ, ◌+◌, ◌/◌, [], length}
use Rattle.slab_layer.specs.declared.kind.TheConstants.{SLOTS_OF_A_PAGE}
use Rattle.slab_layer.specs.Slots.{Pages, Has, IsOut, out_count}
use Rattle.magazine.specs.DepotView.{DepotView}

-- its depot, its slabs, and how many strangers came home
pub record PlaceView : Type 0 where
  pub depot : DepotView
  pub slabs : Pages
  pub foreign : ℕ

abbrev pub empty_place : PlaceView
empty_place = record { depot = record { rounds = []; empties = 0 }; slabs = []; foreign = 0 }

-- what a place weighs on the left: the slots that are out
abbrev pub outs : PlaceView → ℕ
outs p = out_count p.slabs

-- and on the right: strangers, and the rounds of its depot
abbrev pub ins : PlaceView → ℕ
ins p = p.foreign + length p.depot.rounds

-- each page that the slabs have has a slot that is out
abbrev pub EachIsBusy : Pages → Type 0
EachIsBusy slabs = (page : ℕ) → Has slabs page → (slot : ℕ) × (slot / SLOTS_OF_A_PAGE ≡ page) × IsOut slabs slot
