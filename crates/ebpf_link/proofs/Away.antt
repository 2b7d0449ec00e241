-- A run at a slot where the states say so keeps apart from the word.
use Rattle.std.proofs.Common.{◌≡◌, ℕ, ℤ, true, List, Option, Some, sym, subst, arith}
use Rattle.std.specs.Prelude.{◌+ℤ◌, ◌≤ℤ◌, int_le}
use Rattle.std.proofs.lemmas.Int.{ints}
use Rattle.ebpf_insn.specs.declared.register.Reg.{Reg}
use Rattle.ebpf_insn.specs.declared.insn.Insn.{Insn}
use Rattle.ebpf_insn.specs.Registers.{number_of}
use Rattle.ebpf_state.specs.declared.value.Abs.{Abs}
use Rattle.ebpf_state.specs.declared.value.Abs.TheVariants.{Unset, Num, Stk, Ctx, Ob, May}
use Rattle.ebpf_state.specs.States.{register_of}
use Rattle.ebpf_verify.specs.declared.entry.EntryState.{EntryState}
use Rattle.ebpf_verify.specs.declared.entry.EntryState.TheVariants.{Unreached, Known, Conflict}
use Rattle.ebpf_verify.specs.Entry.{entry_of}
use Rattle.ebpf_verify.proofs.Bounded.{number_of-lt}
use Rattle.ebpf_machine.specs.declared.value.Value.{Value}
use Rattle.ebpf_machine.specs.declared.value.Value.TheVariants.{Pointer}
use Rattle.ebpf_machine.specs.declared.value.Base.TheVariants.{Stack}
use Rattle.ebpf_machine.specs.Values.{Frame, read}
use Rattle.ebpf_machine.specs.View.{ObjectView}
use Rattle.ebpf_machine.specs.Concretization.{IsOf, Arrives, calls_of}
use Rattle.ebpf_machine.proofs.Rules.Next.{going_of}
use Rattle.ebpf_link.specs.Apart.{IsApart, AreApart, IsApartBy, IsApartIn, ApartAt}

pub le_of : (a b : ℤ) → int_le a b ≡ true → a ≤ℤ b
le_of a b e = omega (arith, ints, e)

by_value : (calls : List ℕ) (a : Abs) (k : ℤ) (bytes : ℕ) (offset word : ℤ) → IsApartBy bytes offset word a → IsOf calls a (Some (Pointer Stack k)) → IsApart (k +ℤ offset) bytes word
by_value calls Unset k bytes offset word apart of = absurd apart
by_value calls (Stk j) k bytes offset word apart of = subst (λ (z : ℤ). IsApart (z +ℤ offset) bytes word) (sym of) apart
by_value calls (Num a) k bytes offset word apart of = absurd of
by_value calls (Ctx a b) k bytes offset word apart of = absurd of
by_value calls (Ob call a b) k bytes offset word apart of = absurd of
by_value calls (May call) k bytes offset word apart of = absurd of

by_state : (e : EntryState) (frame : Frame ℕ) (objects : List ObjectView) (base : Reg) (bytes : ℕ) (offset word k : ℤ) → IsApartIn base bytes offset word e
    → Arrives e frame objects → read frame base ≡ Some (Pointer Stack k) → IsApart (k +ℤ offset) bytes word
by_state Unreached frame objects base bytes offset word k is h at = absurd h
by_state Conflict frame objects base bytes offset word k is h at = absurd is
by_state (Known s) frame objects base bytes offset word k is h at =
    by_value (calls_of objects) (register_of s base) k bytes offset word is
    (subst (λ (x : Option (Value ℕ)). IsOf (calls_of objects) (register_of s base) x) at (h.each (number_of base) (number_of-lt base)))

pub apart : (q : List (Option Insn)) (word : ℤ) → ((slot : ℕ) → ApartAt q word slot) → AreApart q word
apart q word hold slot other base bytes offset reaches v sound same going pc k at =
    let known : IsApartIn base bytes offset word (entry_of v.subject.program v.pc) = rw (same, pc) (hold slot other base bytes offset reaches) in
    by_state (entry_of v.subject.program v.pc) v.frame v.objects base bytes offset word k known (going_of v sound going).state at
