-- A program that reads data after its context: what it is of another one, whose 64-bit immediates are to be addresses of the data.
use Rattle.std.specs.Prelude.{◌≡◌, ◌⊎◌, ◌<◌, ◌+ℤ◌, ◌≤ℤ◌, ℕ, suc, ℤ, pos, negsuc, false, List, length, Option, Some, None, slice_index_or}
use Rattle.ebpf_insn.specs.declared.register.Reg.{Reg}
use Rattle.ebpf_insn.specs.declared.register.Reg.TheVariants.{R1, R10}
use Rattle.ebpf_insn.specs.declared.insn.Insn.{Insn}
use Rattle.ebpf_insn.specs.declared.insn.Insn.TheVariants as insn
use Rattle.ebpf_insn.specs.declared.insn.AluOp.TheVariants.{Add}
use Rattle.ebpf_insn.specs.declared.insn.Width.TheVariants.{W64}
use Rattle.ebpf_insn.specs.declared.insn.Size.TheVariants.{D}
use Rattle.ebpf_insn.specs.declared.insn.Source.TheVariants.{Imm, Register}
use Rattle.ebpf_insn.specs.declared.program.TheConstants.{MAX_SLOTS}
use Rattle.ebpf_insn.specs.Program.{insn_at}
use Rattle.ebpf_insn.specs.Faults.{lowest}
use Rattle.ebpf_layout.specs.EdgeFaults.{edge_fault_at}
use Rattle.ebpf_link.specs.declared.fault.LinkFault.{LinkFault}
use Rattle.ebpf_link.specs.declared.fault.LinkFault.TheVariants.{Flow, NotWide, Far, Slots, NoWord, NoMemory}

-- the offset in the data whose address the immediate at a slot is to be, if it is to be one
abbrev pub offset_at : List (Option ℤ) → ℕ → Option ℤ
offset_at offsets slot = slice_index_or offsets slot None

-- the context's pointer is saved in a word of the stack, fetched from there into a register, and moved by a number of bytes
abbrev pub saves : ℤ → Insn
saves word = insn.Store D R10 word (Register R1)

abbrev pub fetches : Reg → ℤ → Insn
fetches dst word = insn.Load D false dst R10 word

abbrev pub adds : Reg → ℤ → Insn
adds dst bytes = insn.Alu W64 Add dst (Imm bytes)

-- how far an address is from the context's first byte: the data begins after the declared bytes
abbrev pub address : ℕ → ℤ → ℤ
address declared offset = pos declared +ℤ offset

-- at most 4096 bytes from the context's first byte
abbrev pub IsNear : ℤ → Type 0
IsNear bytes = (negsuc 4095 ≤ℤ bytes) × (bytes ≤ℤ pos 4096)

-- a 64-bit immediate begins at a slot
abbrev pub IsWide : List (Option Insn) → ℕ → Type 0
IsWide p slot = (dst : Reg) × (value : ℕ) × (insn_at p slot ≡ Some (insn.Wide dst value))

-- the immediate at a slot is to be an address, or the one whose second half this slot is
abbrev pub IsReplaced : List (Option ℤ) → ℕ → Type 0
IsReplaced offsets slot = (of : ℕ) × (offset : ℤ) × (offset_at offsets of ≡ Some offset) × ((slot ≡ of) ⊎ (slot ≡ suc of))

-- q is p linked with data that is after the declared bytes of the context. No edge of p leads to no instruction. First q saves the context's
-- pointer. Then it has what p has at each slot, one slot later; but where a 64-bit immediate is to be an address, the pointer is fetched in
-- its first slot and moved in its second. Nothing else is in q.
pub record IsLinked (p : List (Option Insn)) (offsets : List (Option ℤ)) (declared : ℕ) (word : ℤ) (q : List (Option Insn)) : Type 0 where
  pub led : (slot : ℕ) → edge_fault_at p slot ≡ None
  pub long : length q ≡ suc (length p)
  pub first : insn_at q 0 ≡ Some (saves word)
  pub kept : (slot : ℕ) (i : Insn) → insn_at p slot ≡ Some i → offset_at offsets slot ≡ None → insn_at q (suc slot) ≡ Some i
  pub wide : (slot : ℕ) (offset : ℤ) → slot < length p → offset_at offsets slot ≡ Some offset → IsWide p slot
  pub near : (slot : ℕ) (offset : ℤ) → slot < length p → offset_at offsets slot ≡ Some offset → IsNear (address declared offset)
  pub fetched : (slot : ℕ) (offset : ℤ) (dst : Reg) (value : ℕ) → insn_at p slot ≡ Some (insn.Wide dst value) → offset_at offsets slot ≡ Some offset
      → insn_at q (suc slot) ≡ Some (fetches dst word)
  pub moved : (slot : ℕ) (offset : ℤ) (dst : Reg) (value : ℕ) → insn_at p slot ≡ Some (insn.Wide dst value) → offset_at offsets slot ≡ Some offset
      → insn_at q (suc (suc slot)) ≡ Some (adds dst (address declared offset))
  pub only : (slot : ℕ) (i : Insn) → insn_at q (suc slot) ≡ Some i → (insn_at p slot ≡ Some i) ⊎ IsReplaced offsets slot

-- why a program isn't linked with a word: the lowest slot of which an edge leads to no instruction, or a slot that can't have the address
abbrev pub IsLinkFault : List (Option Insn) → List (Option ℤ) → ℕ → LinkFault → Type 0
IsLinkFault p offsets declared (Flow slot code) = lowest (edge_fault_at p) (length p) ≡ Some (slot, code)
IsLinkFault p offsets declared (NotWide slot) = (offset : ℤ) × (offset_at offsets slot ≡ Some offset) × (IsWide p slot → ⊥)
IsLinkFault p offsets declared (Far slot) = (offset : ℤ) × (offset_at offsets slot ≡ Some offset) × (IsNear (address declared offset) → ⊥)
IsLinkFault p offsets declared Slots = MAX_SLOTS < suc (length p)
IsLinkFault p offsets declared NoWord = ⊥
IsLinkFault p offsets declared NoMemory = Unit {0}
