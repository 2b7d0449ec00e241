-- A hand as its callers see it, and what it keeps.
use Rattle.std.specs.Prelude.{◌≡◌, ◌⊎◌, ℕ, ◌+◌, ◌-◌, ◌<◌, ◌≤◌, ◌==◌, ◌^◌, if◌then◌else◌, List, [], ◌∷◌, ◌++◌, length, IsPermutation}
use Rattle.atomic_table.specs.Seated.{TableId}
use Rattle.magazine.specs.LayerView.{LayerView, rounds_of, IsEmpty}
use Rattle.shared_row.specs.Views.{PassView}
use Rattle.shared_cache.specs.declared.fault.TakeFault.{TakeFault}
use Rattle.shared_cache.specs.declared.fault.TakeFault.TheVariants.{Busy, Full, NoSpan, NoMemory}

-- one more, or as many as before at the end
abbrev pub one_more : ℕ → ℕ
one_more n = if n == 2 ^ 56 then n else n + 1

-- How often a hand was given an object and gave one back; how often it took over one that another hand lent, and left one to another; how many
-- it has lent. And how often it was refused one, apart from those times that only another thread was in the way
pub record Counts : Type 0 where
  pub allocs : ℕ
  pub frees : ℕ
  pub adopted : ℕ
  pub passed : ℕ
  pub lent : ℕ
  pub nulls : ℕ
  pub busy : ℕ

abbrev pub no_counts : Counts
no_counts = record { allocs = 0; frees = 0; adopted = 0; passed = 0; lent = 0; nulls = 0; busy = 0 }

abbrev pub lends : Counts → Counts
lends c = record c { allocs = c.allocs + 1; lent = c.lent + 1 }

abbrev pub gets_back : Counts → Counts
gets_back c = record c { frees = c.frees + 1; lent = c.lent - 1 }

abbrev pub adopts : Counts → Counts
adopts c = record c { adopted = c.adopted + 1; lent = c.lent + 1 }

abbrev pub passes_on : Counts → Counts
passes_on c = record c { passed = c.passed + 1; lent = c.lent - 1 }

abbrev pub refuses : TakeFault → Counts → Counts
refuses Busy c = record c { busy = one_more c.busy }
refuses NoSpan c = record c { nulls = one_more c.nulls }
refuses NoMemory c = record c { nulls = one_more c.nulls }
refuses Full c = record c { nulls = one_more c.nulls }

-- its cache, its rounds, the slots of what lies aside, its counts, and each place of the cache that it asked, with the word that it found there
pub record HandView : Type 0 where
  pub table : TableId
  pub layer : LayerView
  pub aside : List ℕ
  pub counts : Counts
  pub notes : List (ℕ × ℕ)

-- a hand that has done nothing
abbrev pub fresh_hand : TableId → HandView
fresh_hand z = record { table = z; layer = record { loaded = []; previous = [] }; aside = []; counts = no_counts; notes = [] }

-- how many objects are in a layer and aside
abbrev pub objects : {X : Type 0} → LayerView → List X → ℕ
objects layer aside = length (rounds_of layer) + length aside

-- the layer has a round
abbrev pub HasRound : LayerView → Type 0
HasRound l = (0 < length l.loaded) ⊎ (0 < length l.previous)

-- the layer, whose magazines hold n rounds, has room for one more
abbrev pub HasRoom : ℕ → LayerView → Type 0
HasRoom rounds l = (length l.loaded < rounds) ⊎ (l.previous ≡ [])

-- a layer that had no room, with an empty magazine as its loaded one, and a round on it
abbrev pub refilled : LayerView → ℕ → LayerView
refilled l slot = record { loaded = slot ∷ []; previous = l.loaded }

-- what it has lent and what lies aside are as many as may be, or it has lent as often as is counted
abbrev pub IsSpent : HandView → Type 0
IsSpent h = (128 ≤ h.counts.lent + length h.aside) ⊎ (2 ^ 56 ≤ h.counts.allocs)

-- what it has lent and what lies aside are as many as may be, or it has taken over as many as are counted
abbrev pub IsLaden : HandView → Type 0
IsLaden h = (128 ≤ h.counts.lent + length h.aside) ⊎ (2 ^ 56 ≤ h.counts.adopted)

-- only its counts change
pub record Counted (old new : HandView) (counts : Counts) : Type 0 where
  pub counts_are : new.counts ≡ counts
  pub table : new.table ≡ old.table
  pub layer : new.layer ≡ old.layer
  pub aside : new.aside ≡ old.aside
  pub notes : new.notes ≡ old.notes

-- it has no object
abbrev pub HasNone : HandView → Type 0
HasNone h = IsEmpty h.layer × (h.aside ≡ [])

-- a round of its layer leaves it, and it asks nobody
pub record TakesRound (old new : HandView) (slot : ℕ) : Type 0 where
  pub taken : IsPermutation (rounds_of old.layer) (slot ∷ rounds_of new.layer)
  pub aside : new.aside ≡ old.aside
  pub notes : new.notes ≡ old.notes

-- what lay aside last leaves it, and it asks nobody
pub record TakesAside (old new : HandView) (slot : ℕ) : Type 0 where
  pub taken : old.aside ≡ new.aside ++ slot ∷ []
  pub layer : new.layer ≡ old.layer
  pub notes : new.notes ≡ old.notes

-- a round comes into its layer, and it asks nobody
pub record GivesRound (old new : HandView) (slot : ℕ) : Type 0 where
  pub given : IsPermutation (slot ∷ rounds_of old.layer) (rounds_of new.layer)
  pub aside : new.aside ≡ old.aside
  pub notes : new.notes ≡ old.notes

-- a round comes onto an empty magazine, which the full one that was loaded goes before
pub record IsRelieved (old new : HandView) (slot : ℕ) : Type 0 where
  pub layer : new.layer ≡ refilled old.layer slot
  pub aside : new.aside ≡ old.aside

-- an object lies aside
pub record LiesAside (old new : HandView) (slot : ℕ) : Type 0 where
  pub layer : new.layer ≡ old.layer
  pub aside : new.aside ≡ old.aside ++ slot ∷ []

-- What a hand keeps, with what its pass is: the objects that left the places for it, and those that it was given back, are as many as those
-- that it brought there, those that it lent, its rounds, and what lies aside. For all that is lent there is room aside, and what is lent is what
-- was given out or taken over, and neither came back nor was left to another.
pub record IsHand (h : HandView) (p : PassView) (capacity : ℕ) : Type 0 where
  pub idle : p.out ≡ []
  pub part : p.parts ≡ 1
  pub even : p.right + h.counts.frees ≡ p.left + h.counts.allocs + length (rounds_of h.layer) + length h.aside
  pub balance : h.counts.lent + h.counts.frees + h.counts.passed ≡ h.counts.allocs + h.counts.adopted
  pub most : h.counts.lent + length h.aside ≤ 128
  pub room : 128 ≤ capacity
  pub few : (h.counts.allocs ≤ 2 ^ 56) × (h.counts.adopted ≤ 2 ^ 56) × (h.counts.nulls ≤ 2 ^ 56) × (h.counts.busy ≤ 2 ^ 56)
