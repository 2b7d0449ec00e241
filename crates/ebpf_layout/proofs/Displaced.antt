-- An instruction with another displacement, at another slot, does the same and goes on where its own edges lead.
use Rattle.std.proofs.Common.{◌≡◌, ℕ, ◌+◌, ℤ, pos, ◌+ℤ◌, Bool, true, false, cond, Option, Some, None, Result, Ok, Err, refl, sym, ap}
use Rattle.std.specs.Prelude.{List, nat_lt, length, ◌&&◌, ◌==◌}
use Rattle.std.specs.Ordering.{int_eq}
use Rattle.std.proofs.lemmas.Option.{none-some}
use Rattle.ebpf_insn.specs.declared.register.Reg.{Reg}
use Rattle.ebpf_insn.specs.declared.register.Reg.TheVariants.{R0, R1, R2}
use Rattle.ebpf_insn.specs.declared.insn.Insn.{Insn}
use Rattle.ebpf_insn.specs.declared.insn.Insn.TheVariants as insn
use Rattle.ebpf_insn.specs.declared.insn.Size.{Size}
use Rattle.ebpf_insn.specs.Program.{slots_in}
use Rattle.ebpf_flow.specs.Edges.{falls, displacement_of, jump_of}
use Rattle.ebpf_state.specs.Stack.{bytes_in, place_of}
use Rattle.ebpf_verify.specs.Operations.{is_frame_pointer}
use Rattle.ebpf_operation.specs.declared.helper.Helper.{Helper}
use Rattle.ebpf_operation.specs.declared.helper.Helper.TheVariants as helper
use Rattle.ebpf_operation.specs.Helpers.{helper_of}
use Rattle.ebpf_insn.specs.declared.insn.Width.TheVariants.{W64}
use Rattle.ebpf_machine.specs.declared.value.Value.{Value}
use Rattle.ebpf_machine.specs.declared.value.Value.TheVariants.{Number, Pointer}
use Rattle.ebpf_machine.specs.declared.value.Base.TheVariants.{Stack, Context, Object}
use Rattle.ebpf_machine.specs.declared.value.Cell.{Cell}
use Rattle.ebpf_machine.specs.Values.{Trap, BadCall, FramePointerWritten, Leak, Frame, read, source_value}
use Rattle.ebpf_machine.specs.Cells.{place_in, stored_at}
use Rattle.ebpf_machine.specs.Effect.{Found, Environment, Act, Nothing, Ask, Free, Exchange, Effect, Goes, Ends, Traps, effect, effect_to}
use Rattle.ebpf_machine.specs.Effect.{with_value, written, is_taken, rewritten, written_at, writes_object, effect_of_store_through}
use Rattle.ebpf_machine.specs.Effect.{effect_of_store, without_arguments, with_zero, effect_of_new, effect_of_freeing, effect_of_free}
use Rattle.ebpf_machine.specs.Effect.{effect_of_emit, is_shelf_number, number_in, effect_of_giving, effect_of_swapping, effect_of_swap}
use Rattle.ebpf_machine.specs.Effect.{effect_of_call, effect_of_jump, effect_of_branch, effect_of_exit, result_number}
use Rattle.ebpf_layout.specs.Layout.{moved}

-- an effect that goes on, if it does, at another slot
abbrev led_to : ℕ → Effect ℕ → Effect ℕ
led_to there (Goes act to frame) = Goes act there frame
led_to there (Ends n) = Ends n
led_to there (Traps trap) = Traps trap

-- ---- an instruction that doesn't jump

written_led : (there next : ℕ) (frame : Frame ℕ) (dst : Reg) (r : Result (Value ℕ) Trap) → written there frame dst r ≡ led_to there (written next frame dst r)
written_led there next frame dst (Err trap) = refl
written_led there next frame dst (Ok v) = by (is_frame_pointer dst) where
  by : (t : Bool)
      → cond t (Traps FramePointerWritten) (Goes Nothing there (with_value frame dst v))
      ≡ led_to there (cond t (Traps FramePointerWritten) (Goes Nothing next (with_value frame dst v)))
  by true = refl
  by false = refl

rewritten_led : (there next : ℕ) (frame : Frame ℕ) (r : Result (List (Cell ℕ)) Trap) → rewritten there frame r ≡ led_to there (rewritten next frame r)
rewritten_led there next frame (Err trap) = refl
rewritten_led there next frame (Ok stack) = refl

written_at_led : (there next : ℕ) (frame : Frame ℕ) (name : ℕ) (place : Option ℕ) (bytes : ℕ) (v : Value ℕ)
    → written_at there frame name place bytes v ≡ led_to there (written_at next frame name place bytes v)
written_at_led there next frame name None bytes v = refl
written_at_led there next frame name (Some place) bytes (Number n) = refl
written_at_led there next frame name (Some place) bytes (Pointer base k) = refl

object_led : (there next : ℕ) (frame : Frame ℕ) (name : ℕ) (r : Result Found Trap) (offset : ℤ) (bytes : ℕ) (v : Value ℕ)
    → writes_object there frame name r offset bytes v ≡ led_to there (writes_object next frame name r offset bytes v)
object_led there next frame name (Err trap) offset bytes v = refl
object_led there next frame name (Ok found) offset bytes v = written_at_led there next frame name (place_in (length found.bytes) offset bytes) bytes v

through_led : (there next : ℕ) (a : Environment ℕ) (frame : Frame ℕ) (size : Size) (offset : ℤ) (base v : Value ℕ)
    → effect_of_store_through there a frame size offset base v ≡ led_to there (effect_of_store_through next a frame size offset base v)
through_led there next a frame size offset (Number n) v = refl
through_led there next a frame size offset (Pointer Stack k) v =
    rewritten_led there next frame (stored_at (place_of (k +ℤ offset) (bytes_in size)) (bytes_in size) v frame.stack)
through_led there next a frame size offset (Pointer Context k) v = refl
through_led there next a frame size offset (Pointer (Object name) k) v = object_led there next frame name (a.object name) (k +ℤ offset) (bytes_in size) v

store_led : (there next : ℕ) (a : Environment ℕ) (frame : Frame ℕ) (size : Size) (offset : ℤ) (x y : Option (Value ℕ))
    → effect_of_store there a frame size offset x y ≡ led_to there (effect_of_store next a frame size offset x y)
store_led there next a frame size offset None y = refl
store_led there next a frame size offset (Some base) None = refl
store_led there next a frame size offset (Some base) (Some v) = through_led there next a frame size offset base v

-- a call goes on, or is a bad one
or_bad_led : (there next : ℕ) (t : Bool) (act : Act ℕ) (frame : Frame ℕ)
    → cond t (Goes act there frame) (Traps BadCall) ≡ led_to there (cond t (Goes act next frame) (Traps BadCall))
or_bad_led there next true act frame = refl
or_bad_led there next false act frame = refl

new_led : (there next : ℕ) (a : Environment ℕ) (frame : Frame ℕ) (x : Option (Value ℕ))
    → effect_of_new there a frame x ≡ led_to there (effect_of_new next a frame x)
new_led there next a frame None = refl
new_led there next a frame (Some (Number kind)) = or_bad_led there next (nat_lt kind a.kinds) (Ask kind) (without_arguments frame)
new_led there next a frame (Some (Pointer base k)) = refl

freeing_led : (there next : ℕ) (frame : Frame ℕ) (name : ℕ) (r : Result Found Trap) (k : ℤ)
    → effect_of_freeing there frame name r k ≡ led_to there (effect_of_freeing next frame name r k)
freeing_led there next frame name (Err trap) k = refl
freeing_led there next frame name (Ok found) k = or_bad_led there next (int_eq k (pos 0)) (Free name) (with_zero frame)

free_led : (there next : ℕ) (a : Environment ℕ) (frame : Frame ℕ) (x : Option (Value ℕ))
    → effect_of_free there a frame x ≡ led_to there (effect_of_free next a frame x)
free_led there next a frame None = refl
free_led there next a frame (Some (Number n)) = refl
free_led there next a frame (Some (Pointer Stack k)) = refl
free_led there next a frame (Some (Pointer Context k)) = refl
free_led there next a frame (Some (Pointer (Object name) k)) = freeing_led there next frame name (a.object name) k

emit_led : (there next : ℕ) (frame : Frame ℕ) (x : Option (Value ℕ)) → effect_of_emit there frame x ≡ led_to there (effect_of_emit next frame x)
emit_led there next frame None = refl
emit_led there next frame (Some (Number n)) = refl
emit_led there next frame (Some (Pointer base k)) = refl

giving_led : (there next : ℕ) (frame : Frame ℕ) (known : Bool) (shelf name : ℕ) (r : Result Found Trap) (k : ℤ)
    → effect_of_giving there frame known shelf name r k ≡ led_to there (effect_of_giving next frame known shelf name r k)
giving_led there next frame known shelf name (Err trap) k = refl
giving_led there next frame known shelf name (Ok found) k =
    or_bad_led there next (known && ((found.kind == shelf) && int_eq k (pos 0))) (Exchange shelf (Some name)) (without_arguments frame)

swapping_led : (there next : ℕ) (a : Environment ℕ) (frame : Frame ℕ) (known : Bool) (shelf : ℕ) (given : Value ℕ)
    → effect_of_swapping there a frame known shelf given ≡ led_to there (effect_of_swapping next a frame known shelf given)
swapping_led there next a frame known shelf (Number n) = or_bad_led there next (known && (n == 0)) (Exchange shelf None) (without_arguments frame)
swapping_led there next a frame known shelf (Pointer Stack k) = refl
swapping_led there next a frame known shelf (Pointer Context k) = refl
swapping_led there next a frame known shelf (Pointer (Object name) k) = giving_led there next frame known shelf name (a.object name) k

swap_led : (there next : ℕ) (a : Environment ℕ) (frame : Frame ℕ) (x y : Option (Value ℕ))
    → effect_of_swap there a frame x y ≡ led_to there (effect_of_swap next a frame x y)
swap_led there next a frame None y = refl
swap_led there next a frame (Some shelf) None = refl
swap_led there next a frame (Some shelf) (Some given) = swapping_led there next a frame (is_shelf_number a.kinds shelf) (number_in shelf) given

call_led : (there next : ℕ) (h : Option Helper) (a : Environment ℕ) (frame : Frame ℕ)
    → effect_of_call h there a frame ≡ led_to there (effect_of_call h next a frame)
call_led there next None a frame = refl
call_led there next (Some helper.New) a frame = new_led there next a frame (read frame R1)
call_led there next (Some helper.Free) a frame = free_led there next a frame (read frame R1)
call_led there next (Some helper.Emit) a frame = emit_led there next frame (read frame R1)
call_led there next (Some helper.Swap) a frame = swap_led there next a frame (read frame R1) (read frame R2)

number_led : (there : ℕ) (v : Value ℕ) → result_number v ≡ led_to there (result_number v)
number_led there (Number n) = refl
number_led there (Pointer base k) = refl

exit_led : (there holds : ℕ) (x : Option (Value ℕ)) → effect_of_exit holds x ≡ led_to there (effect_of_exit holds x)
exit_led there holds None = refl
exit_led there holds (Some v) = by (nat_lt 0 holds) where
  by : (t : Bool) → cond t (Traps Leak) (result_number v) ≡ led_to there (cond t (Traps Leak) (result_number v))
  by true = refl
  by false = number_led there v

insn_led : (i : Insn) (there next at pc : ℕ) (a : Environment ℕ) (frame : Frame ℕ) → displacement_of i ≡ None
    → effect_to i there at a frame ≡ led_to there (effect_to i next pc a frame)
insn_led (insn.Alu width o dst src) there next at pc a frame none = written_led there next frame dst _
insn_led (insn.Sext width bits dst src) there next at pc a frame none = written_led there next frame dst _
insn_led (insn.Neg width dst) there next at pc a frame none = written_led there next frame dst _
insn_led (insn.Swap order bits dst) there next at pc a frame none = written_led there next frame dst _
insn_led (insn.Wide dst value) there next at pc a frame none = written_led there next frame dst (Ok (Number value))
insn_led (insn.Jump offset) there next at pc a frame none = absurd (none-some offset (sym none))
insn_led (insn.JumpFar offset) there next at pc a frame none = absurd (none-some offset (sym none))
insn_led (insn.Branch width condition left right offset) there next at pc a frame none = absurd (none-some offset (sym none))
insn_led insn.Exit there next at pc a frame none = exit_led there a.holds (read frame R0)
insn_led (insn.Load size signed dst base offset) there next at pc a frame none = written_led there next frame dst _
insn_led (insn.Store size base offset src) there next at pc a frame none =
    store_led there next a frame size offset (read frame base) (source_value frame W64 src)
insn_led (insn.Call number) there next at pc a frame none = call_led there next (helper_of number) a frame

-- ---- any instruction

-- one effect and the other end the run alike, trap alike, or go on in the same way: both to the next slot, or both where they jump to
pub data Alike (i : Insn) (pc : ℕ) (j : Insn) (at : ℕ) (e f : Effect ℕ) : Type 0 where
  Ended : (n : ℕ) → e ≡ Ends n → f ≡ Ends n → Alike i pc j at e f
  Trapped : (trap : Trap) → e ≡ Traps trap → f ≡ Traps trap → Alike i pc j at e f
  Fell : (act : Act ℕ) (frame : Frame ℕ) → falls i ≡ true → e ≡ Goes act (pc + slots_in i) frame → f ≡ Goes act (at + slots_in i) frame → Alike i pc j at e f
  Jumped : (act : Act ℕ) (frame : Frame ℕ) (to there : ℕ) → jump_of i pc ≡ Some to → jump_of j at ≡ Some there
      → e ≡ Goes act to frame → f ≡ Goes act there frame → Alike i pc j at e f

-- both jump somewhere, if they jump
abbrev pub BothJump : Insn → ℕ → Insn → ℕ → Type 0
BothJump i pc j at = (d : ℤ) → displacement_of i ≡ Some d → (to : ℕ) × (there : ℕ) × (jump_of i pc ≡ Some to) × (jump_of j at ≡ Some there)

-- an effect that is the same at each slot that it may go on at
by_effect : (i : Insn) (pc at : ℕ) (e f : Effect ℕ) → falls i ≡ true → e ≡ led_to (pc + slots_in i) e → f ≡ led_to (at + slots_in i) e → Alike i pc i at e f
by_effect i pc at (Goes act to frame) f falling same led = Fell act frame falling same led
by_effect i pc at (Ends n) f falling same led = Ended n refl led
by_effect i pc at (Traps trap) f falling same led = Trapped trap refl led

plain : (i : Insn) (pc at : ℕ) (a : Environment ℕ) (frame : Frame ℕ) → displacement_of i ≡ None → falls i ≡ true
    → Alike i pc i at (effect i pc a frame) (effect i at a frame)
plain i pc at a frame none falling = by_effect i pc at (effect i pc a frame) (effect i at a frame) falling
    (insn_led i (pc + slots_in i) (pc + slots_in i) pc pc a frame none) (insn_led i (at + slots_in i) (pc + slots_in i) at pc a frame none)

exit_alike : (pc at holds : ℕ) (x : Option (Value ℕ)) → Alike insn.Exit pc insn.Exit at (effect_of_exit holds x) (effect_of_exit holds x)
exit_alike pc at holds x = by (effect_of_exit holds x) (exit_led 0 holds x) (exit_led 1 holds x) where
  other : (act : Act ℕ) (frame : Frame ℕ) (to : ℕ) → Goes act to frame ≡ Goes act 0 frame → Goes act to frame ≡ Goes act 1 frame → ⊥
  other act frame to e f = absurd (cc)

  by : (e : Effect ℕ) → e ≡ led_to 0 e → e ≡ led_to 1 e → Alike insn.Exit pc insn.Exit at e e
  by (Goes act to frame) nowhere else_where = absurd (other act frame to nowhere else_where)
  by (Ends n) nowhere else_where = Ended n refl refl
  by (Traps trap) nowhere else_where = Trapped trap refl refl

jump_alike : (i : Insn) (pc : ℕ) (j : Insn) (at to there : ℕ) (frame : Frame ℕ) → jump_of i pc ≡ Some to → jump_of j at ≡ Some there
    → Alike i pc j at (effect_of_jump (jump_of i pc) frame) (effect_of_jump (jump_of j at) frame)
jump_alike i pc j at to there frame e f =
    Jumped Nothing frame to there e f (ap (λ (t : Option ℕ). effect_of_jump t frame) e) (ap (λ (t : Option ℕ). effect_of_jump t frame) f)

branch_alike : (i : Insn) (pc : ℕ) (j : Insn) (at to there : ℕ) (frame : Frame ℕ) (taken : Result Bool Trap) → falls i ≡ true
    → jump_of i pc ≡ Some to → jump_of j at ≡ Some there
    → Alike i pc j at (effect_of_branch (pc + slots_in i) (jump_of i pc) frame taken) (effect_of_branch (at + slots_in i) (jump_of j at) frame taken)
branch_alike i pc j at to there frame (Err trap) falling e f = Trapped trap refl refl
branch_alike i pc j at to there frame (Ok true) falling e f = jump_alike i pc j at to there frame e f
branch_alike i pc j at to there frame (Ok false) falling e f = Fell Nothing frame falling refl refl

pub displaced : (i : Insn) (z : ℤ) (pc at : ℕ) (a : Environment ℕ) (frame : Frame ℕ) → BothJump i pc (moved i z) at
    → Alike i pc (moved i z) at (effect i pc a frame) (effect (moved i z) at a frame)
displaced (insn.Jump offset) z pc at a frame both = let b = both offset refl in jump_alike (insn.Jump offset) pc (insn.Jump z) at b.0 b.1 frame b.2 b.3
displaced (insn.JumpFar offset) z pc at a frame both = let b = both offset refl in jump_alike (insn.JumpFar offset) pc (insn.JumpFar z) at b.0 b.1 frame b.2 b.3
displaced (insn.Branch width condition left right offset) z pc at a frame both =
    let b = both offset refl in
    branch_alike (insn.Branch width condition left right offset) pc (insn.Branch width condition left right z) at b.0 b.1 frame
    (is_taken width condition right (read frame left) (source_value frame width right)) refl b.2 b.3
displaced insn.Exit z pc at a frame both = exit_alike pc at a.holds (read frame R0)
displaced (insn.Alu width o dst src) z pc at a frame both = plain (insn.Alu width o dst src) pc at a frame refl refl
displaced (insn.Sext width bits dst src) z pc at a frame both = plain (insn.Sext width bits dst src) pc at a frame refl refl
displaced (insn.Neg width dst) z pc at a frame both = plain (insn.Neg width dst) pc at a frame refl refl
displaced (insn.Swap order bits dst) z pc at a frame both = plain (insn.Swap order bits dst) pc at a frame refl refl
displaced (insn.Wide dst value) z pc at a frame both = plain (insn.Wide dst value) pc at a frame refl refl
displaced (insn.Load size signed dst base offset) z pc at a frame both = plain (insn.Load size signed dst base offset) pc at a frame refl refl
displaced (insn.Store size base offset src) z pc at a frame both = plain (insn.Store size base offset src) pc at a frame refl refl
displaced (insn.Call number) z pc at a frame both = plain (insn.Call number) pc at a frame refl refl
