-- Why a hand is refused an object, as far as what was found at the places says.
use Rattle.std.specs.Prelude.{◌≡◌, ◌⊎◌, ℕ, List}
use Rattle.shared_cache.specs.Asking.{Found, FoundBusy}
use Rattle.shared_cache.specs.declared.fault.TakeFault.{TakeFault}
use Rattle.shared_cache.specs.declared.fault.TakeFault.TheVariants.{Busy, Full, NoSpan, NoMemory}

-- the arena, the only place of its row, was asked last: another pass had it, or it gave no page that could be used
abbrev pub InArena : TakeFault → List (ℕ × ℕ) → List (ℕ × ℕ) → Type 0
InArena Busy old new = FoundBusy old new 0
InArena NoSpan old new = Found old new 0 0
InArena NoMemory old new = Found old new 0 0
InArena Full old new = ⊥

-- the slabs' place was asked last: another pass had it, or its slabs had nothing, and then the arena was asked
abbrev pub InSlabs : TakeFault → ℕ → List (ℕ × ℕ) → List (ℕ × ℕ) → List (ℕ × ℕ) → List (ℕ × ℕ) → Type 0
InSlabs Busy place old new before after = FoundBusy old new place ⊎ (Found old new place 0 × FoundBusy before after 0)
InSlabs NoSpan place old new before after = Found old new place 0 × Found before after 0 0
InSlabs NoMemory place old new before after = Found old new place 0 × Found before after 0 0
InSlabs Full place old new before after = ⊥

-- how many pages were given back: none where another pass had the slabs, or the arena, which are asked one after the other
abbrev pub IsGiven : ℕ → ℕ → List (ℕ × ℕ) → List (ℕ × ℕ) → List (ℕ × ℕ) → List (ℕ × ℕ) → Type 0
IsGiven n place old new was now =
    (FoundBusy old new place × (n ≡ 0))
    ⊎ ((Found old new place 0 × FoundBusy was now 0 × (n ≡ 0)) ⊎ (Found old new place 0 × Found was now 0 0))
