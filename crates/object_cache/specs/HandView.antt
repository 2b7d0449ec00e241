-- A hand as its callers see it, and what it keeps.
use Rattle.std.specs.Prelude.{◌≡◌, ◌⊎◌, ℕ, ◌+◌, ◌^◌, ◌<◌, ◌≤◌, [], ◌∷◌, length}
use Rattle.magazine.specs.LayerView.{LayerView, rounds_of}

-- its rounds, and how often it was given an object, gave one back, and was refused one
pub record HandView : Type 0 where
  pub layer : LayerView
  pub allocs : ℕ
  pub frees : ℕ
  pub nulls : ℕ

-- a hand that has done nothing
abbrev pub fresh : HandView
fresh = record { layer = record { loaded = []; previous = [] }; allocs = 0; frees = 0; nulls = 0 }

-- the layer has a round
abbrev pub HasRound : LayerView → Type 0
HasRound l = (0 < length l.loaded) ⊎ (0 < length l.previous)

-- the layer, whose magazines hold n rounds, has room for one more
abbrev pub HasRoom : ℕ → LayerView → Type 0
HasRoom rounds l = (length l.loaded < rounds) ⊎ (l.previous ≡ [])

-- a layer that had no room, with an empty magazine as its loaded one, and a round on it
abbrev pub refilled : LayerView → ℕ → LayerView
refilled l slot = record { loaded = slot ∷ []; previous = l.loaded }

-- a hand has one part of each book. The objects that left the inside for it, and those that it was given back, are as
-- many as those that came in from it, those that it gave away, and its rounds. Both shares began with more than is ever given.
pub record IsHand (h : HandView) (out_parts outs in_parts ins : ℕ) : Type 0 where
  pub one_out : out_parts ≡ 1
  pub one_in : in_parts ≡ 1
  pub even : outs + h.frees ≡ ins + h.allocs + length (rounds_of h.layer)
  pub lent : 2 ^ 56 ≤ ins
  pub few_allocs : h.allocs ≤ 2 ^ 56
  pub few_frees : h.frees ≤ 2 ^ 56
  pub few_nulls : h.nulls ≤ 2 ^ 56
