-- Tallies of programs, one for each, and what they come to.
use Rattle.std.specs.Prelude.{◌≡◌, ℕ, List, length, Some, slice_get}
use Rattle.ebpf_verify.specs.Subject.{Subject}
use Rattle.ebpf_cover.specs.declared.counts.Counts.{Counts}
use Rattle.ebpf_cover.specs.declared.tally.Tally.{Tally}
use Rattle.ebpf_cover.specs.Covered.{AreLong, executed_at, taken_at}
use Rattle.ebpf_cover.specs.Stretches.{IsTally, begun_at, executed_so_far, taken_so_far}

-- something holds of each program and its tally
abbrev pub Each : (ℕ → Subject → Tally → Type 0) → List Subject → List Tally → Type 0
Each holds subjects tallies =
    (program : ℕ) (s : Subject) (t : Tally) → slice_get subjects program ≡ Some s → slice_get tallies program ≡ Some t → holds program s t

-- there is one for each program, of its stretches
pub record AreTallies (subjects : List Subject) (tallies : List Tally) : Type 0 where
  pub long : length tallies ≡ length subjects
  pub each : Each (λ program s t. IsTally s.program t) subjects tallies

-- nothing is counted
abbrev pub AreBlank : List Subject → List Tally → Type 0
AreBlank subjects tallies = Each (λ program s t. (slot : ℕ) → (begun_at t slot ≡ 0) × (taken_so_far t slot ≡ 0)) subjects tallies

-- the counts of a program are what its tally comes to
pub record IsSum (s : Subject) (t : Tally) (c : Counts) : Type 0 where
  pub long : AreLong s.program c
  pub executed : (slot : ℕ) → executed_at c slot ≡ executed_so_far s.program t slot
  pub taken : (slot : ℕ) → taken_at c slot ≡ taken_so_far t slot

-- so are those of each
pub record AreSums (subjects : List Subject) (tallies : List Tally) (all : List Counts) : Type 0 where
  pub long : length all ≡ length tallies
  pub each : (program : ℕ) (s : Subject) (t : Tally) (c : Counts)
      → slice_get subjects program ≡ Some s → slice_get tallies program ≡ Some t → slice_get all program ≡ Some c → IsSum s t c
