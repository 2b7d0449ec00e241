-- A linked program as it is written, slot by slot.
use Rattle.std.specs.Prelude.{◌≡◌, ◌<◌, ◌≤◌, ◌+◌, ◌*◌, drop, ℕ, suc, ℤ, List, [], ◌∷◌, ◌++◌, length, Option, Some, None}
use Rattle.std.specs.List.{flat_map, AllByRecursion}
use Rattle.ebpf_insn.specs.declared.register.Reg.{Reg}
use Rattle.ebpf_insn.specs.declared.insn.Insn.{Insn}
use Rattle.ebpf_insn.specs.declared.insn.Insn.TheVariants as insn
use Rattle.ebpf_insn.specs.Program.{instructions, placed}
use Rattle.ebpf_insn.specs.Encoding.{IsDefined}
use Rattle.ebpf_link.specs.Linking.{offset_at, saves, fetches, adds, address, IsWide, IsNear}

abbrev pub linked_wide : Option ℤ → ℕ → ℤ → Reg → ℕ → List (Option Insn)
linked_wide None declared word dst value = placed (insn.Wide dst value)
linked_wide (Some offset) declared word dst value = Some (fetches dst word) ∷ Some (adds dst (address declared offset)) ∷ []

abbrev pub linked_insn : Insn → Option ℤ → ℕ → ℤ → List (Option Insn)
linked_insn (insn.Wide dst value) offset declared word = linked_wide offset declared word dst value
linked_insn i offset declared word = placed i

abbrev pub linked_slot : Option Insn → Option ℤ → ℕ → ℤ → List (Option Insn)
linked_slot None offset declared word = []
linked_slot (Some i) offset declared word = linked_insn i offset declared word

-- what is written of the slots of p, which begin at a slot
unfoldable pub linked_from : List (Option ℤ) → ℕ → ℤ → ℕ → List (Option Insn) → List (Option Insn)
linked_from offsets declared word slot [] = []
linked_from offsets declared word slot (o ∷ p) = linked_slot o (offset_at offsets slot) declared word ++ linked_from offsets declared word (suc slot) p

abbrev pub linked_slots : List (Option Insn) → List (Option ℤ) → ℕ → ℤ → List (Option Insn)
linked_slots p offsets declared word = Some (saves word) ∷ linked_from offsets declared word 0 p

-- slots of whole instructions that have an encoding
pub record IsCode (code : List (Option Insn)) (count : ℕ) : Type 0 where
  pub counted : count ≡ length (instructions code)
  pub defined : AllByRecursion IsDefined (instructions code)
  pub placed : code ≡ flat_map placed (instructions code)

-- a slot can have the address that it is to have
abbrev pub Fits : List (Option Insn) → List (Option ℤ) → ℕ → ℕ → Type 0
Fits p offsets declared slot = (offset : ℤ) → offset_at offsets slot ≡ Some offset → IsWide p slot × (IsNear (address declared offset))

-- the slots of p below one are written
pub record IsSoFar (p : List (Option Insn)) (offsets : List (Option ℤ)) (declared : ℕ) (word : ℤ) (slot : ℕ)
    (written : List (Option Insn)) (count : ℕ) : Type 0 where
  pub code : IsCode written count
  pub whole : linked_slots p offsets declared word ≡ written ++ linked_from offsets declared word slot (drop slot p)
  pub short : length written ≤ 2 * slot + 1
  pub fits : (k : ℕ) → k < slot → Fits p offsets declared k
