-- What an instruction reads of a run, and a result that it writes there.
use Rattle.std.proofs.Common.{◌≡◌, ℕ, ◌+◌, ◌≤◌, ℤ, false, List, Some, None, Result, refl, ◌∙◌, inl, arith}
use Rattle.std.specs.Prelude.{FitsSigned}
use Rattle.std.specs.Int.{w32}
use Rattle.std.proofs.lemmas.List.Elements.{All-get_or}
use Rattle.std.proofs.lemmas.Int.{ints}
use Rattle.ebpf_insn.specs.declared.register.Reg.{Reg}
use Rattle.ebpf_insn.specs.declared.insn.Insn.{Insn}
use Rattle.ebpf_insn.specs.declared.insn.Insn.TheVariants as insn
use Rattle.ebpf_insn.specs.declared.insn.Source.{Source}
use Rattle.ebpf_insn.specs.declared.insn.Source.TheVariants.{Register, Imm}
use Rattle.ebpf_insn.specs.declared.insn.Width.{Width}
use Rattle.ebpf_insn.specs.declared.insn.Width.TheVariants.{W32, W64}
use Rattle.ebpf_insn.specs.Registers.{number_of}
use Rattle.ebpf_insn.specs.Program.{slots_in}
use Rattle.ebpf_insn.specs.Encoding.{IsSource}
use Rattle.ebpf_insn.specs.Arithmetic.{immediate}
use Rattle.ebpf_flow.specs.Edges.{fall_of}
use Rattle.ebpf_range.specs.Interval.{constant}
use Rattle.ebpf_state.specs.declared.value.Abs.{Abs}
use Rattle.ebpf_state.specs.declared.value.Abs.TheVariants.{Num}
use Rattle.ebpf_state.specs.StateView.{StateView}
use Rattle.ebpf_state.specs.States.{register_of, with_register}
use Rattle.ebpf_verify.specs.Operations.{is_frame_pointer}
use Rattle.ebpf_verify.specs.Branches.{operand}
use Rattle.ebpf_verify.specs.Rules.{after_fall}
use Rattle.ebpf_machine.specs.declared.value.Value.{Value}
use Rattle.ebpf_machine.specs.declared.value.Value.TheVariants.{Number}
use Rattle.ebpf_machine.specs.Values.{Trap, Frame, read, source_value}
use Rattle.ebpf_machine.specs.Effect.{Nothing, Goes, effect, with_value, written}
use Rattle.ebpf_machine.specs.View.{ObjectView, RunView, environment_of_view}
use Rattle.ebpf_machine.specs.Concretization.{IsOf, AreOf, calls_of}
use Rattle.ebpf_machine.specs.Sound.{FitsRegister}
use Rattle.ebpf_verify.proofs.Bounded.{number_of-lt}
use Rattle.ebpf_machine.proofs.Rules.Entries.{fall_arrives}
use Rattle.ebpf_machine.proofs.Rules.Operations.{IsFitting}
use Rattle.ebpf_machine.proofs.Rules.Registers.{IsFrame, IsFrame-with, AreOf-with}
use Rattle.ebpf_machine.proofs.Rules.Next.{IsHere, IsNext, entered_here, frame_of, goes_quietly}

constant_holds : (calls : List ℕ) (width : Width) (z : ℤ) → FitsSigned w32 z
    → IsOf calls (Num (constant (immediate width z))) (Some (Number (immediate width z)))
constant_holds calls W32 z fits = ((omega arith, omega arith), omega (arith, ints))
constant_holds calls W64 z fits = ((omega arith, omega arith), omega (arith, ints))

pub operand_sound : (s : StateView) (frame : Frame ℕ) (objects : List ObjectView) (width : Width) (src : Source) → IsSource src
    → AreOf s frame objects → IsOf (calls_of objects) (operand s width src) (source_value frame width src)
operand_sound s frame objects width (Register r) fits h = h.each (number_of r) (number_of-lt r)
operand_sound s frame objects width (Imm z) fits h = constant_holds (calls_of objects) width z fits

pub source_fits : (frame : Frame ℕ) (width : Width) (src : Source) → IsFrame frame → FitsRegister (source_value frame width src)
source_fits frame width (Register r) h =
    let room = number_of-lt r in let whole = h.whole in All-get_or FitsRegister frame.registers (number_of r) None (omega arith) h.fit.registers
source_fits frame width (Imm z) h = tt

-- what is known of a register, and its value
pub register_holds : (v : RunView) (i : Insn) (s : StateView) (r : Reg) → IsHere v i s → IsOf (calls_of v.objects) (register_of s r) (read v.frame r)
register_holds v i s r here = here.state.each (number_of r) (number_of-lt r)

-- ---- arithmetic

-- an instruction that writes a result: what it does, and what its rule says
pub record Writes (v : RunView) (i : Insn) (s : StateView) (dst : Reg) (known : Abs) (result : Result (Value ℕ) Trap) : Type 0 where
  pub does : effect i v.pc (environment_of_view v) v.frame ≡ written (v.pc + slots_in i) v.frame dst result
  pub falls : fall_of i v.pc ≡ Some (v.pc + slots_in i)
  pub sends : after_fall v.pc i s ≡ Some (with_register s dst known)

some_slots : (i : Insn) → 1 ≤ slots_in i
some_slots (insn.Wide dst value) = omega arith
some_slots _ = omega arith

-- an instruction whose result is one that its rule speaks of
pub result_next : (v : RunView) (i : Insn) (s : StateView) (dst : Reg) (known : Abs) (result : Result (Value ℕ) Trap) → IsHere v i s
    → Writes v i s dst known result → is_frame_pointer dst ≡ false → IsFitting (calls_of v.objects) known result → IsNext v
result_next v i s dst known result here w low r =
    let frame = frame_of v here.sound in
    let some = some_slots i in
    let to = v.pc + slots_in i in
    let after = with_value v.frame dst r.v in
    let writes : effect i v.pc (environment_of_view v) v.frame ≡ Goes Nothing to after = w.does ∙ rw (r.is, low) refl in
    let there = AreOf-with dst known (Some r.v) here.full.whole frame.whole here.state r.of in
    goes_quietly v i s to after here writes (inl w.falls) (IsFrame-with dst (Some r.v) low r.fits frame)
    (fall_arrives to (entered_here here) w.sends w.falls (omega (arith, some)) there)
