-- What is written so far of copies, from the last slot to the first.
use Rattle.std.specs.Prelude.{◌≡◌, ℕ, ℤ, List, [], ◌∷◌, length, Option, Some, None, slice_get}
use Rattle.ebpf_insn.specs.declared.insn.Insn.{Insn}
use Rattle.ebpf_insn.specs.declared.insn.Insn.TheVariants as insn
use Rattle.ebpf_insn.specs.Program.{insn_at}
use Rattle.ebpf_layout.specs.Layout.{moved}
use Rattle.ebpf_layout.specs.Writing.{IsCode}

-- an instruction is that of a slot, if it copies one, but for its displacement
abbrev pub IsCopyOf : List (Option Insn) → Insn → Option ℕ → Type 0
IsCopyOf p j None = Unit {0}
IsCopyOf p j (Some slot) = (i : Insn) → insn_at p slot ≡ Some i → (z : ℤ) × (j ≡ moved i z)

-- the second half of a wide instruction copies none
abbrev pub half_copied : Insn → List (Option ℕ)
half_copied (insn.Wide dst value) = None ∷ []
half_copied i = []

-- the slots are those of `count` instructions, and one that copies a slot of the old program has the instruction of that
pub record IsWritten (p code : List (Option Insn)) (of : List (Option ℕ)) (count : ℕ) : Type 0 where
  pub coded : IsCode code count
  pub even : length of ≡ length code
  pub copies : (k slot : ℕ) (i : Insn) → slice_get of k ≡ Some (Some slot) → insn_at p slot ≡ Some i → (z : ℤ) × (slice_get code k ≡ Some (Some (moved i z)))
