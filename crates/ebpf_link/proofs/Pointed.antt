-- One instruction moves the context's pointer to where it is to be.
use Rattle.std.proofs.Common.{◌≡◌, ℕ, ℤ, pos, suc, ◌+◌, false, List, Option, Some, None, refl, ap, ◌∙◌, subst, arith}
use Rattle.std.specs.Prelude.{◌+ℤ◌}
use Rattle.std.specs.Int.{w64}
use Rattle.std.proofs.lemmas.Int.{ints, to_z-of_z}
use Rattle.std.proofs.lemmas.List.{get_or-set_same}
use Rattle.ebpf_insn.specs.declared.register.Reg.{Reg}
use Rattle.ebpf_insn.specs.declared.register.Reg.TheVariants.{R10}
use Rattle.ebpf_insn.specs.declared.insn.Insn.{Insn}
use Rattle.ebpf_insn.specs.declared.insn.Insn.TheVariants as insn
use Rattle.ebpf_insn.specs.declared.insn.Width.TheVariants.{W64}
use Rattle.ebpf_insn.specs.Registers.{number_of}
use Rattle.ebpf_insn.specs.Program.{insn_at}
use Rattle.ebpf_insn.proofs.ProgramLemmas.{insn_at_within}
use Rattle.ebpf_insn.specs.Arithmetic.{immediate, signed_of}
use Rattle.ebpf_state.specs.declared.value.Abs.{Abs}
use Rattle.ebpf_state.specs.declared.value.Abs.TheVariants.{Ctx}
use Rattle.ebpf_verify.specs.declared.entry.EntryState.{EntryState}
use Rattle.ebpf_verify.specs.declared.entry.EntryState.TheVariants.{Unreached, Known, Conflict}
use Rattle.ebpf_verify.specs.Entry.{entry_of}
use Rattle.ebpf_verify.proofs.Bounded.{number_of-lt}
use Rattle.ebpf_machine.specs.declared.value.Value.{Value}
use Rattle.ebpf_machine.specs.declared.value.Value.TheVariants.{Number, Pointer}
use Rattle.ebpf_machine.specs.declared.value.Base.TheVariants.{Stack, Context, Object}
use Rattle.ebpf_machine.specs.Layout.{is_frame_pointer}
use Rattle.ebpf_machine.specs.Values.{Frame, read}
use Rattle.ebpf_machine.specs.Effect.{Nothing, Goes, Effect, with_value}
use Rattle.ebpf_machine.specs.World.{Status, Going}
use Rattle.ebpf_machine.specs.View.{ObjectView, RunView, stepped, stepped_from, done_by, effect_of_view}
use Rattle.ebpf_machine.specs.Concretization.{IsOf, Arrives, calls_of}
use Rattle.ebpf_machine.specs.Sound.{IsSound}
use Rattle.ebpf_machine.proofs.Rules.Next.{going_of}
use Rattle.ebpf_link.specs.Linking.{adds, address, IsLinked, IsNear}
use Rattle.ebpf_link.specs.Pointing.{PointsAt, ArePointing, IsContextIn, HoldsContext, AreFetched, HoldsAfter}

-- the only value of which it is known that it is the context's first byte
is_first : (calls : List ℕ) (x : Option (Value ℕ)) → IsOf calls (Ctx (pos 0) (pos 0)) x → x ≡ Some (Pointer Context (pos 0))
is_first calls None h = absurd h
is_first calls (Some (Number n)) h = absurd h
is_first calls (Some (Pointer Stack w)) h = absurd h
is_first calls (Some (Pointer Context w)) h = let same : w ≡ pos 0 = omega (arith, ints, h.0, h.1) in ap (λ (z : ℤ). Some (Pointer Context z)) same
is_first calls (Some (Pointer (Object at) w)) h = absurd h

read_first : (e : EntryState) (frame : Frame ℕ) (objects : List ObjectView) (dst : Reg) → IsContextIn dst e → Arrives e frame objects
    → read frame dst ≡ Some (Pointer Context (pos 0))
read_first Unreached frame objects dst is h = absurd h
read_first Conflict frame objects dst is h = absurd is
read_first (Known s) frame objects dst is h =
    is_first (calls_of objects) (read frame dst) (subst (λ (a : Abs). IsOf (calls_of objects) a (read frame dst)) is (h.each (number_of dst) (number_of-lt dst)))

not_frame : (frame : Frame ℕ) (dst : Reg) → read frame R10 ≡ Some (Pointer Stack (pos 0)) → read frame dst ≡ Some (Pointer Context (pos 0)) → is_frame_pointer dst ≡ false
not_frame frame R10 a b = absurd (cc)
not_frame frame _ a b = refl

moved_by : (n : ℤ) → IsNear n → pos 0 +ℤ signed_of (immediate W64 n) ≡ n
moved_by n near = let same : signed_of (immediate W64 n) ≡ n = to_z-of_z w64 n (omega (arith, ints, near.0, near.1)) in rw same (omega (arith, ints))

pub points : (q : List (Option Insn)) (slot : ℕ) (dst : Reg) (bytes : ℤ) → HoldsContext q slot dst → insn_at q slot ≡ Some (adds dst bytes) → IsNear bytes → PointsAt q slot dst bytes
points q slot dst bytes holds at few v sound same going pc result =
    let here : insn_at v.subject.program v.pc ≡ Some (adds dst bytes) = rw (same, pc) at in
    let known : IsContextIn dst (entry_of v.subject.program v.pc) = rw (same, pc) holds in
    let was = read_first (entry_of v.subject.program v.pc) v.frame v.objects dst known (going_of v sound going).state in
    let low = not_frame v.frame dst sound.pointer was in
    let room = number_of-lt dst in
    let does : effect_of_view v ≡ Goes Nothing (v.pc + 1) (with_value v.frame dst (Pointer Context (pos 0 +ℤ signed_of (immediate W64 bytes)))) =
    rw (here, was, low) refl in
    let steps : stepped result v ≡ done_by (effect_of_view v) result v = ap (λ (s : Status). stepped_from s result v) going in
    ap (λ (w : RunView). read w.frame dst) (steps ∙ ap (λ (e : Effect ℕ). done_by e result v) does)
    ∙ get_or-set_same v.frame.registers (number_of dst) (Some (Pointer Context (pos 0 +ℤ signed_of (immediate W64 bytes)))) None (omega (arith, room, sound.registers))
    ∙ ap (λ (z : ℤ). Some (Pointer Context z)) (moved_by bytes few)

-- a run at a slot where the states say so has the context's pointer
held : (q : List (Option Insn)) (slot : ℕ) (dst : Reg) → HoldsContext q slot dst → (v : RunView) → IsSound v → v.subject.program ≡ q → v.status ≡ Going
    → v.pc ≡ slot → read v.frame dst ≡ Some (Pointer Context (pos 0))
held q slot dst holds v sound same going pc =
    let known : IsContextIn dst (entry_of v.subject.program v.pc) = rw (same, pc) holds in
    read_first (entry_of v.subject.program v.pc) v.frame v.objects dst known (going_of v sound going).state

pub fetched : (q : List (Option Insn)) (word : ℤ) → ((slot : ℕ) → HoldsAfter q word slot) → AreFetched q word
fetched q word hold slot dst at = held q (suc slot) dst (hold slot dst at)

-- where the states show it, each address is right
pub pointing : (p q : List (Option Insn)) (offsets : List (Option ℤ)) (declared : ℕ) (word : ℤ) → IsLinked p offsets declared word q
    → ((slot : ℕ) → HoldsAfter q word slot) → ArePointing p offsets declared q
pointing p q offsets declared word linked hold slot offset dst value at wanted =
    let inside = insn_at_within p slot (insn.Wide dst value) at in
    points q (suc (suc slot)) dst (address declared offset) (hold (suc slot) dst (linked.fetched slot offset dst value at wanted))
    (linked.moved slot offset dst value at wanted) (linked.near slot offset inside wanted)
