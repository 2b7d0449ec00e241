-- An instruction that is not refused does not trap, and the run is sound after it.
use Rattle.std.proofs.Common.{◌≡◌, ℕ, zero, suc, ◌+◌, ◌<◌, ◌≤◌, Bool, true, false, List, [], ◌∷◌, length, get_or, Option, Some, None, Ok, refl, sym}
use Rattle.std.proofs.Common.{ap, subst, ◌∙◌, arith, inl, inr}
use Rattle.std.specs.Prelude.{ℤ, pos, ◌||◌, nat_lt}
use Rattle.std.proofs.lemmas.Bool.Decides.{nat_tests}
use Rattle.std.proofs.lemmas.Int.{ints}
use Rattle.ebpf_insn.specs.declared.register.Reg.{Reg}
use Rattle.ebpf_insn.specs.declared.register.Reg.TheVariants.{R0}
use Rattle.ebpf_insn.specs.declared.insn.Insn.{Insn}
use Rattle.ebpf_insn.specs.declared.insn.Insn.TheVariants as insn
use Rattle.ebpf_insn.specs.declared.insn.Source.{Source}
use Rattle.ebpf_insn.specs.declared.insn.Source.TheVariants.{Register, Imm}
use Rattle.ebpf_insn.specs.declared.insn.AluOp.{AluOp}
use Rattle.ebpf_insn.specs.declared.insn.Width.{Width}
use Rattle.ebpf_insn.specs.declared.insn.Width.TheVariants.{W64}
use Rattle.ebpf_insn.specs.Program.{insn_at}
use Rattle.ebpf_flow.specs.Edges.{jump_of, displacement_of}
use Rattle.ebpf_insn.specs.declared.insn.Cond.{Cond}
use Rattle.ebpf_range.specs.declared.range.Range.{Range}
use Rattle.ebpf_range.specs.Interval.{constant}
use Rattle.ebpf_state.specs.declared.value.Abs.{Abs}
use Rattle.ebpf_state.specs.declared.value.Abs.TheVariants.{Unset, Num}
use Rattle.ebpf_state.specs.Abstract.{is_unset, is_pointer, is_may}
use Rattle.ebpf_state.specs.Ascending.{IsAscending}
use Rattle.ebpf_state.specs.StateView.{StateView}
use Rattle.ebpf_state.specs.States.{register_of, first_state}
use Rattle.ebpf_verify.specs.declared.entry.EntryState.{EntryState}
use Rattle.ebpf_verify.specs.declared.entry.EntryState.TheVariants.{Unreached, Known, Conflict}
use Rattle.ebpf_verify.specs.Operations.{is_frame_pointer, unary_refusal, unary_value, result_of}
use Rattle.ebpf_verify.specs.Branches.{operand, null_test, branch_refusal, with_operands, after_comparison, after_branch}
use Rattle.ebpf_verify.specs.Rules.{refusal, exit_refusal, after_jump}
use Rattle.ebpf_verify.specs.Entry.{entry_of}
use Rattle.ebpf_verify.specs.Verdict.{refusal_in}
use Rattle.ebpf_machine.specs.declared.value.Value.{Value}
use Rattle.ebpf_machine.specs.declared.value.Value.TheVariants.{Number}
use Rattle.ebpf_machine.specs.Values.{Frame, read, source_value}
use Rattle.ebpf_machine.specs.Effect.{Nothing, Goes, Ends, effect, unary, alu_value, effect_of_jump, is_taken, effect_of_exit}
use Rattle.ebpf_machine.specs.World.{Going, first_registers, first_frame}
use Rattle.ebpf_machine.specs.View.{ObjectView, RunView, environment_of_view}
use Rattle.ebpf_machine.specs.Concretization.{IsOf, AreOf, AreReferred, Arrives, calls_of}
use Rattle.ebpf_machine.specs.Sound.{AreSized, IsSound}
use Rattle.ebpf_machine.proofs.Rules.Joins.{IsWhole}
use Rattle.ebpf_verify.proofs.Bounded.{register_bounded}
use Rattle.ebpf_verify.proofs.RulesBounded.{operand_bounded}
use Rattle.ebpf_machine.proofs.Rules.Entries.{fall_arrives, jump_arrives}
use Rattle.ebpf_machine.proofs.Rules.Operations.{AreOperands, none_first, neither, number_value}
use Rattle.ebpf_machine.proofs.Rules.Words.{first_cells}
use Rattle.ebpf_machine.proofs.Rules.Referred.{objects_few}
use Rattle.ebpf_machine.proofs.Rules.Next.{IsHere, IsNext, entered_here, going_of, defined_in, frame_of, effect_here, goes_quietly}
use Rattle.ebpf_machine.proofs.Rules.Operands.{operand_sound, source_fits, register_holds, Writes, result_next}
use Rattle.ebpf_machine.proofs.Rules.LoadsSound.{load_next}
use Rattle.ebpf_machine.proofs.Rules.StoresSound.{store_next}
use Rattle.ebpf_machine.proofs.Rules.CallsSound.{call_next}
use Rattle.ebpf_machine.proofs.Rules.Results.{IsRow, unary_sound, alu_sound, extension_row, negation_row, swap_row}
use Rattle.ebpf_verify.proofs.Leading.{jump_leads}
use Rattle.ebpf_machine.proofs.Rules.Comparisons.{comparison_sound, refined_state, null_test_sound, settled_state}

-- ---- arithmetic

alu_next : {v : RunView} (width : Width) (o : AluOp) (dst : Reg) (src : Source) {s : StateView} → IsHere v (insn.Alu width o dst src) s → IsNext v
alu_next {v} width o dst src {s} here =
    let i = insn.Alu width o dst src in
    let source = defined_in v here.sound v.pc i here.at in
    let left = register_of s dst in
    let right = operand s width src in
    let are : AreOperands (calls_of v.objects) v.pc left right (read v.frame dst) (source_value v.frame width src) = record {
      left_bound = register_bounded v.pc s dst here.full;
      right_bound = operand_bounded v.pc s width src source here.full;
      left_of = register_holds v i s dst here;
      right_of = operand_sound s v.frame v.objects width src source here.state;
    } in
    let sound = alu_sound width o dst here.fine are (source_fits v.frame width src (frame_of v here.sound)) in
    result_next v i s dst (result_of width o left right) (alu_value width o (read v.frame dst) (source_value v.frame width src)) here
    (record { does = refl; falls = refl; sends = refl }) sound.low sound.result

-- an operation on one number
unary_next : {v : RunView} {i : Insn} {s : StateView} {dst : Reg} (src : Reg) {row : Range → Range} {f : ℕ → ℕ} → IsHere v i s → IsRow row f
    → refusal v.subject.decl v.subject.rows i s ≡ unary_refusal (register_of s src) dst
    → Writes v i s dst (unary_value row (register_of s src)) (unary f (read v.frame src)) → IsNext v
unary_next {v} {i} {s} {dst} src {row} {f} here is by w =
    let sound = unary_sound (calls_of v.objects) v.pc (register_of s src) (read v.frame src) dst is (sym by ∙ here.fine)
    (register_bounded v.pc s src here.full) (register_holds v i s src here) in
    result_next v i s dst (unary_value row (register_of s src)) (unary f (read v.frame src)) here w sound.0 sound.1

wide_next : {v : RunView} (dst : Reg) (value : ℕ) {s : StateView} → IsHere v (insn.Wide dst value) s → IsNext v
wide_next {v} dst value {s} here =
    let low = none_first (is_frame_pointer dst) _ _ here.fine in
    let fits = defined_in v here.sound v.pc (insn.Wide dst value) here.at in
    result_next v (insn.Wide dst value) s dst (Num (constant value)) (Ok (Number value)) here (record { does = refl; falls = refl; sends = refl }) low.0
    (record { v = Number value; is = refl; fits = tt; of = ((omega arith, omega arith), fits) })

-- ---- jumps and branches

-- an instruction that leaves the frame as it is, and jumps
jumps_next : {v : RunView} {i : Insn} {s after : StateView} (z : ℤ) → IsHere v i s → displacement_of i ≡ Some z
    → ((to : ℕ) → jump_of i v.pc ≡ Some to → effect i v.pc (environment_of_view v) v.frame ≡ Goes Nothing to v.frame)
    → after_jump i s ≡ Some after → AreOf after v.frame v.objects → IsNext v
jumps_next {v} {i} {s} z here by does sends h =
    let to = jump_leads v.subject.program v.pc i z here.sound.accepted.flow here.at by in
    goes_quietly v i s to.0 v.frame here (does to.0 to.1) (inr to.1) (frame_of v here.sound)
    (jump_arrives to.0 (entered_here here) sends to.1 to.2 h)

-- a jump
jump_next : {v : RunView} {i : Insn} {s : StateView} (z : ℤ) → IsHere v i s → displacement_of i ≡ Some z
    → effect i v.pc (environment_of_view v) v.frame ≡ effect_of_jump (jump_of i v.pc) v.frame → after_jump i s ≡ Some s → IsNext v
jump_next {v} z here by does sends = jumps_next z here by (λ to at. does ∙ ap (λ (o : Option ℕ). effect_of_jump o v.frame) at) sends here.state

-- a branch that goes one way, where what it sends there speaks of the run
branch_leads : {v : RunView} (width : Width) (condition : Cond) (left : Reg) (right : Source) (offset : ℤ) {s after : StateView} (taken : Bool)
    → IsHere v (insn.Branch width condition left right offset) s
    → is_taken width condition right (read v.frame left) (source_value v.frame width right) ≡ Ok taken
    → after_branch condition width left right taken s ≡ Some after → AreOf after v.frame v.objects → IsNext v
branch_leads width condition left right offset true here goes sends h =
    jumps_next offset here refl (λ to at. rw (goes, at) refl) sends h
branch_leads {v} width condition left right offset {s} false here goes sends h =
    let i = insn.Branch width condition left right offset in
    goes_quietly v i s (v.pc + 1) v.frame here (rw goes refl) (inl refl) (frame_of v here.sound)
    (fall_arrives (v.pc + 1) (entered_here here) sends refl (omega arith) h)

register_source : (frame : Frame ℕ) (calls : List ℕ) (width : Width) (src : Source) (a : Abs)
    → IsOf calls a (source_value frame width src) → (r : Reg) → src ≡ Register r → IsOf calls a (read frame r)
register_source frame calls width src a h r same = subst (λ (q : Source). IsOf calls a (source_value frame width q)) same h

branch_next : {v : RunView} (width : Width) (condition : Cond) (left : Reg) (right : Source) (offset : ℤ) {s : StateView} (test : Option ℕ)
    → null_test width condition (register_of s left) right ≡ test → IsHere v (insn.Branch width condition left right offset) s
    → IsNext v
branch_next {v} width condition left right offset {s} None is here =
    let i = insn.Branch width condition left right offset in
    let source = (defined_in v here.sound v.pc i here.at).0 in
    let x = read v.frame left in
    let y = source_value v.frame width right in
    let refused = ap (λ (t : Option ℕ). branch_refusal t (register_of s left) (operand s width right)) is in
    let are : AreOperands (calls_of v.objects) v.pc (register_of s left) (operand s width right) x y = record {
      left_bound = register_bounded v.pc s left here.full;
      right_bound = operand_bounded v.pc s width right source here.full;
      left_of = register_holds v i s left here;
      right_of = operand_sound s v.frame v.objects width right source here.state;
    } in
    let sound = comparison_sound condition width right (sym refused ∙ here.fine) are in
    let sends = ap (λ (t : Option ℕ). after_comparison t condition width left right sound.taken s) is
    ∙ ap (λ (o : Option (Range × Range)). with_operands left right o s) sound.refined in
    let there = refined_state left right sound.known y here.full.whole here.state sound.of_left
    (register_source v.frame (calls_of v.objects) width right (Num sound.known.1) sound.of_right) in
    branch_leads width condition left right offset sound.taken here sound.goes sends there
branch_next {v} width condition left right offset {s} (Some call) is here =
    let i = insn.Branch width condition left right offset in
    let x = read v.frame left in
    let y = source_value v.frame width right in
    let sound = null_test_sound (calls_of v.objects) call condition width (register_of s left) right x y is (zero_source v.frame width right)
    (register_holds v i s left here) in
    let sends = ap (λ (t : Option ℕ). after_comparison t condition width left right sound.taken s) is in
    branch_leads width condition left right offset sound.taken here sound.goes sends (settled_state v.pc here.full sound.answered here.state)
  where
    zero_source : (frame : Frame ℕ) (width : Width) (src : Source) → src ≡ Imm (pos 0) → width ≡ W64 → source_value frame width src ≡ Some (Number 0)
    zero_source frame width src e f = rw (e, f) refl

-- ---- exit

abbrev IsNumber : Option (Value ℕ) → Type 0
IsNumber x = (n : ℕ) × (x ≡ Some (Number n))

returns_number : (calls : List ℕ) (a : Abs) (held : ℕ) (x : Option (Value ℕ)) → exit_refusal a held ≡ None → IsOf calls a x
    → IsNumber x × (nat_lt 0 held ≡ false)
returns_number calls a held x fine h =
    let u = none_first (is_unset a) _ _ fine in
    let l = none_first (nat_lt 0 held) _ _ u.1 in
    let r = none_first (is_pointer a || is_may a) _ _ l.1 in
    let no = neither (is_pointer a) (is_may a) r.0 in
    let n = number_value calls a x u.0 no.1 no.0 h in
    ((n.n, n.holds), l.0)

-- where no reference is held, no object is
no_objects : (s : StateView) (objects : List ObjectView) → nat_lt 0 (length s.held) ≡ false → IsAscending (calls_of objects)
    → AreReferred s objects → objects ≡ []
no_objects s [] none order h = refl
no_objects s (o ∷ objects) none order h = absurd (is_empty (length s.held) none (objects_few (o ∷ objects) s.held order h)) where
  is_empty : (n : ℕ) → nat_lt 0 n ≡ false → suc (length objects) ≤ n → ⊥
  is_empty n none le = grind (arith, nat_tests)

exits_number : (holds : ℕ) (x : Option (Value ℕ)) (n : ℕ) → x ≡ Some (Number n) → holds ≡ 0 → effect_of_exit holds x ≡ Ends n
exits_number holds x n e none = rw (e, none) refl

exit_next : {v : RunView} {s : StateView} → IsHere v insn.Exit s → IsNext v
exit_next {v} {s} here =
    let number = returns_number (calls_of v.objects) (register_of s R0) (length s.held) (read v.frame R0) here.fine (here.state.each 0 (omega arith)) in
    let none = no_objects s v.objects number.1 (going_of v here.sound here.going).ascending here.state.held in
    inr (
      number.0.0,
      record {
        does = effect_here v insn.Exit s here
            ∙ exits_number (length v.objects) (read v.frame R0) number.0.0 number.0.1 (ap (λ (os : List ObjectView). length os) none);
        none = none;
      },
    )

-- ---- the table

insn_next : {v : RunView} (i : Insn) {s : StateView} → IsHere v i s → IsNext v
insn_next (insn.Alu width o dst src) here = alu_next width o dst src here
insn_next (insn.Sext width bits dst src) here = unary_next src here (extension_row width bits) refl (record { does = refl; falls = refl; sends = refl })
insn_next (insn.Neg width dst) here = unary_next dst here (negation_row width) refl (record { does = refl; falls = refl; sends = refl })
insn_next (insn.Swap order bits dst) here = unary_next dst here (swap_row order bits) refl (record { does = refl; falls = refl; sends = refl })
insn_next (insn.Wide dst value) here = wide_next dst value here
insn_next (insn.Jump offset) here = jump_next offset here refl refl refl
insn_next (insn.JumpFar offset) here = jump_next offset here refl refl refl
insn_next (insn.Branch width condition left right offset) {s} here =
    branch_next width condition left right offset (null_test width condition (register_of s left) right) refl here
insn_next insn.Exit here = exit_next here
insn_next (insn.Load size signed dst base offset) here = load_next size signed dst base offset here
insn_next (insn.Store size base offset src) here = store_next size base offset src here
insn_next {v} (insn.Call number) {s} here = call_next number here

-- the instruction of a sound run, at a slot that is not refused
pub slot_next : {v : RunView} (i : Insn) (a : EntryState) → IsSound v → AreSized v → v.status ≡ Going
    → insn_at v.subject.program v.pc ≡ Some i → entry_of v.subject.program v.pc ≡ a → IsWhole v.pc a → Arrives a v.frame v.objects
    → refusal_in v.subject.decl v.subject.rows (Some i) a ≡ None → IsNext v
slot_next i Unreached sound sized going at entered w h fine = absurd h
slot_next i Conflict sound sized going at entered w h fine = absurd (cc)
slot_next i (Known s) sound sized going at entered w h fine =
    insn_next i (record { sound = sound; sized = sized; going = going; at = at; entered = entered; full = w; state = h; fine = fine })

-- the first frame is as the first state says
pub first_holds : AreOf first_state first_frame []
first_holds = record { each = first_each; words = first_cells; held = λ o there. let inside = there.1 in absurd (omega arith) } where
  first_each : (k : ℕ) → k < 11 → IsOf [] (get_or first_state.registers k Unset) (get_or first_registers k None)
  first_each zero lt = tt
  first_each (suc zero) lt = (omega (arith, ints), omega (arith, ints))
  first_each (suc (suc zero)) lt = tt
  first_each (suc (suc (suc zero))) lt = tt
  first_each (suc (suc (suc (suc zero)))) lt = tt
  first_each (suc (suc (suc (suc (suc zero))))) lt = tt
  first_each (suc (suc (suc (suc (suc (suc zero)))))) lt = tt
  first_each (suc (suc (suc (suc (suc (suc (suc zero))))))) lt = tt
  first_each (suc (suc (suc (suc (suc (suc (suc (suc zero)))))))) lt = tt
  first_each (suc (suc (suc (suc (suc (suc (suc (suc (suc zero))))))))) lt = tt
  first_each (suc (suc (suc (suc (suc (suc (suc (suc (suc (suc zero)))))))))) lt = refl
  first_each (suc (suc (suc (suc (suc (suc (suc (suc (suc (suc (suc k))))))))))) lt = tt
