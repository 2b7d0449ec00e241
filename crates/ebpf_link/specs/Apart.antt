-- Which loads and stores are apart from the word of the stack that has the context's pointer.
use Rattle.std.specs.Prelude.{◌≡◌, ◌⊎◌, ℕ, ℤ, pos, ◌+ℤ◌, ◌≤ℤ◌, List, Option, Some}
use Rattle.ebpf_insn.specs.declared.register.Reg.{Reg}
use Rattle.ebpf_insn.specs.declared.insn.Insn.{Insn}
use Rattle.ebpf_insn.specs.declared.insn.Insn.TheVariants as insn
use Rattle.ebpf_insn.specs.Program.{insn_at}
use Rattle.ebpf_state.specs.declared.value.Abs.{Abs}
use Rattle.ebpf_state.specs.declared.value.Abs.TheVariants.{Unset, Stk}
use Rattle.ebpf_state.specs.Stack.{bytes_in}
use Rattle.ebpf_state.specs.States.{register_of}
use Rattle.ebpf_verify.specs.declared.entry.EntryState.{EntryState}
use Rattle.ebpf_verify.specs.declared.entry.EntryState.TheVariants.{Unreached, Known, Conflict}
use Rattle.ebpf_verify.specs.Entry.{entry_of}
use Rattle.ebpf_machine.specs.declared.value.Value.TheVariants.{Pointer}
use Rattle.ebpf_machine.specs.declared.value.Base.TheVariants.{Stack}
use Rattle.ebpf_machine.specs.Values.{read}
use Rattle.ebpf_machine.specs.World.{Going}
use Rattle.ebpf_machine.specs.View.{RunView}
use Rattle.ebpf_machine.specs.Sound.{IsSound}
use Rattle.ebpf_link.specs.Linking.{saves, fetches}

-- what is at a slot loads or stores a number of bytes at an offset from a register
abbrev pub Reaches : Option Insn → Reg → ℕ → ℤ → Type 0
Reaches (Some (insn.Load size signed dst from by)) base bytes offset = (from ≡ base) × (bytes_in size ≡ bytes) × (by ≡ offset)
Reaches (Some (insn.Store size from by src)) base bytes offset = (from ≡ base) × (bytes_in size ≡ bytes) × (by ≡ offset)
Reaches _ base bytes offset = ⊥

-- it saves the context's pointer in the word, or fetches it from there
abbrev pub IsOfWord : ℤ → Option Insn → Type 0
IsOfWord word o = (o ≡ Some (saves word)) ⊎ ((dst : Reg) × (o ≡ Some (fetches dst word)))

-- a number of bytes from a place on are all below the word's eight, or all above them; places are counted from r10
abbrev pub IsApart : ℤ → ℕ → ℤ → Type 0
IsApart at bytes word = ((at +ℤ pos bytes) ≤ℤ word) ⊎ ((word +ℤ pos 8) ≤ℤ at)

-- in every run of q, what each instruction but those of the word loads from the stack or stores there is apart from the word
abbrev pub AreApart : List (Option Insn) → ℤ → Type 0
AreApart q word = (slot : ℕ) → (IsOfWord word (insn_at q slot) → ⊥)
    → (base : Reg) (bytes : ℕ) (offset : ℤ) → Reaches (insn_at q slot) base bytes offset
    → (v : RunView) → IsSound v → v.subject.program ≡ q → v.status ≡ Going → v.pc ≡ slot
    → (k : ℤ) → read v.frame base ≡ Some (Pointer Stack k) → IsApart (k +ℤ offset) bytes word

-- ---- what is known before a slot

-- by what is known of the register
abbrev pub IsApartBy : ℕ → ℤ → ℤ → Abs → Type 0
IsApartBy bytes offset word Unset = ⊥
IsApartBy bytes offset word (Stk k) = IsApart (k +ℤ offset) bytes word
IsApartBy bytes offset word _ = Unit {0}

abbrev pub IsApartIn : Reg → ℕ → ℤ → ℤ → EntryState → Type 0
IsApartIn base bytes offset word Unreached = Unit {0}
IsApartIn base bytes offset word (Known s) = IsApartBy bytes offset word (register_of s base)
IsApartIn base bytes offset word Conflict = ⊥

-- what is at a slot, by what is known there
abbrev pub AllApart : Option Insn → ℤ → EntryState → Type 0
AllApart o word known = (base : Reg) (bytes : ℕ) (offset : ℤ) → Reaches o base bytes offset → IsApartIn base bytes offset word known

abbrev pub ApartAt : List (Option Insn) → ℤ → ℕ → Type 0
ApartAt q word slot = (IsOfWord word (insn_at q slot) → ⊥) → AllApart (insn_at q slot) word (entry_of q slot)
