-- How slots are loaded: as they are, or after each jump was made to lead forward.
use Rattle.std.specs.Prelude.{◌≡◌, ℕ, ℤ, List, []}
use Rattle.ebpf_link.specs.Right.{IsRight, IsShown}
use Rattle.ebpf_verify.specs.Subject.{Subject}
use Rattle.ebpf_host.specs.declared.program.Program.{Program}
use Rattle.ebpf_host.specs.declared.refusal.Refusal.{Refusal}
use Rattle.ebpf_host.specs.Loading.{IsLoaded, IsRefusedAs}
use Rattle.ebpf_host.specs.Unrolled.{IsLoadedForward, IsRefusedForward}
use Rattle.ebpf_host_c.specs.declared.loading.Loops.{Loops}
use Rattle.ebpf_host_c.specs.declared.loading.Loops.TheVariants as loops

abbrev pub IsLoadedBy : Loops → (context held : ℕ) → List ℕ → Subject → Type 0
IsLoadedBy loops.Refused context held code = IsLoaded code context held
IsLoadedBy loops.Unrolled context held code = IsLoadedForward code context held

abbrev pub IsRefusedBy : Loops → (context held : ℕ) → List ℕ → Refusal → Type 0
IsRefusedBy loops.Refused context held code = IsRefusedAs code context held
IsRefusedBy loops.Unrolled context held code = IsRefusedForward code context held

-- the program has no data, and is loaded so
pub record IsLoadedAlone (loads : Subject → Type 0) (p : Program) : Type 0 where
  pub none : p.data.items ≡ []
  pub is : loads p.verified

-- The word of a linked program has the context's pointer in every run, and nothing else touches it. The link says so of a program that is
-- loaded as it is; of one that is made of it, this does.
abbrev pub IsKept : Loops → Subject → (word : ℤ) → Type 0
IsKept loops.Refused s word = Unit {0}
IsKept loops.Unrolled s word = IsRight s.program word

-- what is known before the slots of the program that was made doesn't show it
abbrev pub IsUnshown : Loops → Subject → (word : ℤ) → Type 0
IsUnshown loops.Refused s word = ⊥
IsUnshown loops.Unrolled s word = IsShown s.program word → ⊥
