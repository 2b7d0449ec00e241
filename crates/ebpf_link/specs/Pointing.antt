-- What it means that the addresses of a linked program are right, and what has to be known before its slots for that.
use Rattle.std.specs.Prelude.{◌≡◌, ℕ, suc, ℤ, pos, List, Option, Some}
use Rattle.ebpf_insn.specs.declared.register.Reg.{Reg}
use Rattle.ebpf_insn.specs.declared.insn.Insn.{Insn}
use Rattle.ebpf_insn.specs.declared.insn.Insn.TheVariants as insn
use Rattle.ebpf_insn.specs.Program.{insn_at}
use Rattle.ebpf_state.specs.declared.value.Abs.TheVariants.{Ctx}
use Rattle.ebpf_state.specs.States.{register_of}
use Rattle.ebpf_verify.specs.declared.entry.EntryState.{EntryState}
use Rattle.ebpf_verify.specs.declared.entry.EntryState.TheVariants.{Unreached, Known, Conflict}
use Rattle.ebpf_verify.specs.Entry.{entry_of}
use Rattle.ebpf_machine.specs.declared.value.Value.TheVariants.{Pointer}
use Rattle.ebpf_machine.specs.declared.value.Base.TheVariants.{Context}
use Rattle.ebpf_machine.specs.Values.{read}
use Rattle.ebpf_machine.specs.World.{Going}
use Rattle.ebpf_machine.specs.View.{RunView, CallResult, stepped}
use Rattle.ebpf_machine.specs.Sound.{IsSound}
use Rattle.ebpf_link.specs.Linking.{address, fetches, offset_at}

-- in every run of a program that is at a slot, one instruction later a register has the context's pointer, moved by a number of bytes
abbrev pub PointsAt : List (Option Insn) → ℕ → Reg → ℤ → Type 0
PointsAt q slot dst bytes = (v : RunView) → IsSound v → v.subject.program ≡ q → v.status ≡ Going → v.pc ≡ slot → (result : CallResult)
    → read (stepped result v).frame dst ≡ Some (Pointer Context bytes)

-- In every run of q, right after the two instructions that replace an address of p, the register has the context's pointer, moved by the
-- declared bytes and the offset.
abbrev pub ArePointing : List (Option Insn) → List (Option ℤ) → ℕ → List (Option Insn) → Type 0
ArePointing p offsets declared q = (slot : ℕ) (offset : ℤ) (dst : Reg) (value : ℕ) → insn_at p slot ≡ Some (insn.Wide dst value)
    → offset_at offsets slot ≡ Some offset → PointsAt q (suc (suc slot)) dst (address declared offset)

-- in every run of q, at the slot after one that fetches the word, the register has the context's pointer
abbrev pub AreFetched : List (Option Insn) → ℤ → Type 0
AreFetched q word = (slot : ℕ) (dst : Reg) → insn_at q slot ≡ Some (fetches dst word)
    → (v : RunView) → IsSound v → v.subject.program ≡ q → v.status ≡ Going → v.pc ≡ suc slot → read v.frame dst ≡ Some (Pointer Context (pos 0))

-- ---- what is known before a slot

-- of all that comes it is known that a register has the context's first byte, or nothing comes
abbrev pub IsContextIn : Reg → EntryState → Type 0
IsContextIn dst Unreached = Unit {0}
IsContextIn dst (Known s) = register_of s dst ≡ Ctx (pos 0) (pos 0)
IsContextIn dst Conflict = ⊥

abbrev pub HoldsContext : List (Option Insn) → ℕ → Reg → Type 0
HoldsContext q slot dst = IsContextIn dst (entry_of q slot)

-- so it is at the slot after this one, if this one fetches the word
abbrev pub HoldsAfter : List (Option Insn) → ℤ → ℕ → Type 0
HoldsAfter q word slot = (dst : Reg) → insn_at q slot ≡ Some (fetches dst word) → HoldsContext q (suc slot) dst
