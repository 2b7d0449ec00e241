-- An instruction does to a run with other names what it does to the run, with these names.
use Rattle.std.proofs.Common.{◌≡◌, ℕ, zero, suc, ◌+◌, ℤ, pos, ◌+ℤ◌, Bool, true, false, cond, List, [], ◌∷◌, length, get_or, set, Option, Some, None}
use Rattle.std.proofs.Common.{Result, Ok, Err, refl, sym, ap, ◌∙◌}
use Rattle.std.specs.Prelude.{map, nat_lt, option_map, ◌&&◌, ◌==◌}
use Rattle.std.specs.Ordering.{int_eq}
use Rattle.std.proofs.lemmas.List.{map-set}
use Rattle.ebpf_insn.specs.declared.register.Reg.{Reg}
use Rattle.ebpf_insn.specs.declared.register.Reg.TheVariants.{R0, R1, R2, R3, R4, R5}
use Rattle.ebpf_insn.specs.declared.insn.Insn.{Insn}
use Rattle.ebpf_insn.specs.declared.insn.Insn.TheVariants as insn
use Rattle.ebpf_insn.specs.declared.insn.Source.{Source}
use Rattle.ebpf_insn.specs.declared.insn.Source.TheVariants.{Register, Imm}
use Rattle.ebpf_insn.specs.declared.insn.AluOp.{AluOp}
use Rattle.ebpf_insn.specs.declared.insn.AluOp.TheVariants as op
use Rattle.ebpf_insn.specs.declared.insn.Cond.{Cond}
use Rattle.ebpf_insn.specs.declared.insn.Size.{Size}
use Rattle.ebpf_insn.specs.declared.insn.Width.{Width}
use Rattle.ebpf_insn.specs.declared.insn.Width.TheVariants.{W32, W64}
use Rattle.ebpf_insn.specs.Registers.{number_of}
use Rattle.ebpf_insn.specs.Arithmetic.{kept_at, extension_at, negation_at, swap_of}
use Rattle.ebpf_flow.specs.Edges.{jump_of}
use Rattle.ebpf_state.specs.Stack.{bytes_in, place_of}
use Rattle.ebpf_verify.specs.Operations.{is_frame_pointer}
use Rattle.ebpf_verify.specs.Branches.{compares_with_null}
use Rattle.ebpf_operation.specs.declared.helper.Helper.{Helper}
use Rattle.ebpf_operation.specs.declared.helper.Helper.TheVariants as helper
use Rattle.ebpf_operation.specs.Helpers.{helper_of}
use Rattle.ebpf_machine.specs.declared.value.Base.{Base}
use Rattle.ebpf_machine.specs.declared.value.Base.TheVariants.{Stack, Context, Object}
use Rattle.ebpf_machine.specs.declared.value.Value.{Value}
use Rattle.ebpf_machine.specs.declared.value.Value.TheVariants.{Number, Pointer}
use Rattle.ebpf_machine.specs.declared.value.Cell.{Cell}
use Rattle.ebpf_machine.specs.Values.{Trap, ContextAccess, ObjectBounds, PointerMisuse, BadCall, FramePointerWritten, Leak, Frame, read, source_value}
use Rattle.ebpf_machine.specs.Cells.{loaded_at, place_in, read_at, stored_at}
use Rattle.ebpf_machine.specs.Effect.{Found, Environment, Act, Nothing, Ask, Free, Exchange, Effect, Goes, Traps, effect_at, effect, unary, copied}
use Rattle.ebpf_machine.specs.Effect.{moved_on_left, moved_on_right, pointer_to, computed, binary, alu_value, with_value, written, is_inequality}
use Rattle.ebpf_machine.specs.Effect.{compared, is_taken, read_object, loaded, rewritten, written_at, writes_object, effect_of_store_through}
use Rattle.ebpf_machine.specs.Effect.{effect_of_store, unset, without_arguments, with_zero, effect_of_new, effect_of_freeing, effect_of_free}
use Rattle.ebpf_machine.specs.Effect.{with_output, effect_of_emit, exchanges, effect_of_giving, effect_of_swapping, effect_of_swap, effect_of_call}
use Rattle.ebpf_machine.specs.Effect.{effect_of_jump, effect_of_branch, effect_of_exit, result_number}
use Rattle.ebpf_machine.specs.Renaming.{base_renamed, value_renamed, register_renamed, cell_renamed, frame_renamed}
use Rattle.ebpf_machine.specs.Sound.{Names, HasPointer}
use Rattle.ebpf_machine.proofs.World.Telling.{Telling, trap_told, found_told, act_told, effect_told}
use Rattle.ebpf_machine.proofs.World.CellsTold.{result_told, stack_told, loaded_at-told, read_at-told, stored_at-told, cell_points}
use Rattle.ebpf_machine.proofs.World.Pointing.{read_points}

get_or-told : {N M : Type 0} → (how : Telling N M) → (xs : List (Option (Value N))) (k : ℕ)
    → get_or (map (register_renamed how.name) xs) k None ≡ register_renamed how.name (get_or xs k None)
get_or-told how [] k = refl
get_or-told how (x ∷ xs) zero = refl
get_or-told how (x ∷ xs) (suc k) = get_or-told how xs k

set-told : {N M : Type 0} → (how : Telling N M) → (xs : List (Option (Value N))) (k : ℕ) (v : Value N)
    → map (register_renamed how.name) (set xs k (Some v)) ≡ set (map (register_renamed how.name) xs) k (Some (value_renamed how.name v))
set-told how [] k v = refl
set-told how (x ∷ xs) zero v = refl
set-told {N} {M} how (x ∷ xs) (suc k) v = ap (λ (ys : List (Option (Value M))). register_renamed how.name x ∷ ys) (set-told how xs k v)

pub read-told : {N M : Type 0} → (how : Telling N M) → (frame : Frame N) (r : Reg)
    → read (frame_renamed how.name frame) r ≡ register_renamed how.name (read frame r)
read-told how frame r = get_or-told how frame.registers (number_of r)

source-told : {N M : Type 0} → (how : Telling N M) → (frame : Frame N) (width : Width) (src : Source)
    → source_value (frame_renamed how.name frame) width src ≡ register_renamed how.name (source_value frame width src)
source-told how frame width (Register r) = read-told how frame r
source-told how frame width (Imm z) = refl

unary-told : {N M : Type 0} → (how : Telling N M) → (f : ℕ → ℕ) (x : Option (Value N)) → unary f (register_renamed how.name x) ≡ result_told how (unary f x)
unary-told how f None = refl
unary-told how f (Some (Number n)) = refl
unary-told how f (Some (Pointer base k)) = refl

copied-told : {N M : Type 0} → (how : Telling N M) → (x : Option (Value N)) → copied (register_renamed how.name x) ≡ result_told how (copied x)
copied-told how None = refl
copied-told how (Some v) = refl

pointer-told : {N M : Type 0} → (how : Telling N M) → (base : Base N) (k : Option ℤ)
    → pointer_to (base_renamed how.name base) k ≡ result_told how (pointer_to base k)
pointer-told how base None = refl
pointer-told how base (Some k) = refl

computed-told : {N M : Type 0} → (how : Telling N M) → (width : Width) (o : AluOp) (v w : Value N)
    → computed width o (value_renamed how.name v) (value_renamed how.name w) ≡ result_told how (computed width o v w)
computed-told how width o (Number a) (Number b) = refl
computed-told how width o (Number n) (Pointer base k) = pointer-told how base (moved_on_right width o n k)
computed-told how width o (Pointer base k) (Number n) = pointer-told how base (moved_on_left width o k n)
computed-told how width o (Pointer base k) (Pointer other j) = refl

binary-told : {N M : Type 0} → (how : Telling N M) → (width : Width) (o : AluOp) (x y : Option (Value N))
    → binary width o (register_renamed how.name x) (register_renamed how.name y) ≡ result_told how (binary width o x y)
binary-told how width o None y = refl
binary-told how width o (Some v) None = refl
binary-told how width o (Some v) (Some w) = computed-told how width o v w

alu-told : {N M : Type 0} → (how : Telling N M) → (width : Width) (o : AluOp) (x y : Option (Value N))
    → alu_value width o (register_renamed how.name x) (register_renamed how.name y) ≡ result_told how (alu_value width o x y)
alu-told how W64 op.Mov x y = copied-told how y
alu-told how W32 op.Mov x y = unary-told how (kept_at W32) y
alu-told how W32 o x y = binary-told how W32 o x y
alu-told how W64 o x y = binary-told how W64 o x y

-- what a run sees of a comparison
abbrev decision_told : {N M : Type 0} → (how : Telling N M) → Result Bool Trap → Result Bool Trap
decision_told how (Ok taken) = Ok taken
decision_told how (Err trap) = Err (trap_told how trap)

null-told : {N M : Type 0} → (how : Telling N M) → (t taken : Bool)
    → cond t (Ok taken) (Err PointerMisuse) ≡ decision_told how (cond t (Ok taken) (Err PointerMisuse))
null-told how true taken = refl
null-told how false taken = refl

compared-told : {N M : Type 0} → (how : Telling N M) → (width : Width) (condition : Cond) (right : Source) (v w : Value N)
    → compared width condition right (value_renamed how.name v) (value_renamed how.name w) ≡ decision_told how (compared width condition right v w)
compared-told how width condition right (Number a) (Number b) = refl
compared-told how width condition right (Number a) (Pointer base k) = refl
compared-told how width condition right (Pointer Stack k) w = refl
compared-told how width condition right (Pointer Context k) w = refl
compared-told how width condition right (Pointer (Object name) k) (Number b) =
    null-told how (compares_with_null width condition right) (is_inequality condition)
compared-told how width condition right (Pointer (Object name) k) (Pointer base j) = refl

taken-told : {N M : Type 0} → (how : Telling N M) → (width : Width) (condition : Cond) (right : Source) (x y : Option (Value N))
    → is_taken width condition right (register_renamed how.name x) (register_renamed how.name y) ≡ decision_told how (is_taken width condition right x y)
taken-told how width condition right None y = refl
taken-told how width condition right (Some v) None = refl
taken-told how width condition right (Some v) (Some w) = compared-told how width condition right v w

effect_of_jump-told : {N M : Type 0} → (how : Telling N M) → (target : Option ℕ) (frame : Frame N)
    → effect_of_jump target (frame_renamed how.name frame) ≡ effect_told how (effect_of_jump target frame)
effect_of_jump-told how None frame = refl
effect_of_jump-told how (Some to) frame = refl

effect_of_branch-told : {N M : Type 0} → (how : Telling N M)
    → (next : ℕ) (target : Option ℕ) (frame : Frame N) (r : Result Bool Trap)
    → effect_of_branch next target (frame_renamed how.name frame) (decision_told how r) ≡ effect_told how (effect_of_branch next target frame r)
effect_of_branch-told how next target frame (Err trap) = refl
effect_of_branch-told how next target frame (Ok true) = effect_of_jump-told how target frame
effect_of_branch-told how next target frame (Ok false) = refl

pub with_value-told : {N M : Type 0} → (how : Telling N M) → (frame : Frame N) (dst : Reg) (v : Value N)
    → with_value (frame_renamed how.name frame) dst (value_renamed how.name v) ≡ frame_renamed how.name (with_value frame dst v)
with_value-told {N} {M} how frame dst v =
    ap (λ (regs : List (Option (Value M))). record (frame_renamed how.name frame) { registers = regs }) (sym (set-told how frame.registers (number_of dst) v))

chosen-told : {N M : Type 0} → (how : Telling N M) → (t : Bool) (to : ℕ) (frame : Frame N)
    → cond t (Traps FramePointerWritten) (Goes Nothing to (frame_renamed how.name frame))
    ≡ effect_told how (cond t (Traps FramePointerWritten) (Goes Nothing to frame))
chosen-told how true to frame = refl
chosen-told how false to frame = refl

written-told : {N M : Type 0} → (how : Telling N M) → (to : ℕ) (frame : Frame N) (dst : Reg) (r : Result (Value N) Trap)
    → written to (frame_renamed how.name frame) dst (result_told how r) ≡ effect_told how (written to frame dst r)
written-told how to frame dst (Err trap) = refl
written-told how to frame dst (Ok v) = rw (with_value-told how frame dst v) (chosen-told how (is_frame_pointer dst) to (with_value frame dst v))

number-told : {N M : Type 0} → (how : Telling N M) → (v : Value N) → result_number (value_renamed how.name v) ≡ effect_told how (result_number v)
number-told how (Number n) = refl
number-told how (Pointer base k) = refl

leaks-told : {N M : Type 0} → (how : Telling N M) → (t : Bool) (e : Effect N)
    → cond t (Traps Leak) (effect_told how e) ≡ effect_told how (cond t (Traps Leak) e)
leaks-told how true e = refl
leaks-told how false e = refl

effect_of_exit-told : {N M : Type 0} → (how : Telling N M) → (holds : ℕ) (x : Option (Value N))
    → effect_of_exit holds (register_renamed how.name x) ≡ effect_told how (effect_of_exit holds x)
effect_of_exit-told how holds None = refl
effect_of_exit-told how holds (Some v) = rw (number-told how v) (leaks-told how (nat_lt 0 holds) (result_number v))

-- what an instruction meets beside the frame is seen so: the same context, as many kinds and as many objects; what is found under
-- names of which it has pointers; and these names are one on one side where they are on the other
pub record IsToldAs {N M : Type 0} (how : Telling N M) (a : Environment N) (b : Environment M) (frame : Frame N) : Type 0 where
  pub context : b.context ≡ a.context
  pub kinds : b.kinds ≡ a.kinds
  pub holds : b.holds ≡ a.holds
  pub objects : (n : N) → HasPointer frame n → b.object (how.name n) ≡ found_told how (a.object n)
  pub names : (n m : N) → HasPointer frame n → HasPointer frame m → b.is_same (how.name n) (how.name m) ≡ a.is_same n m

-- ---- loads

stack_load-told : {N M : Type 0} → (how : Telling N M)
    → (a : Environment N) (b : Environment M) (frame : Frame N) (size : Size) (signed : Bool) (at : ℤ) → IsToldAs how a b frame
    → loaded_at b.is_same (place_of at (bytes_in size)) (bytes_in size) signed (map (cell_renamed how.name) frame.stack)
    ≡ result_told how (loaded_at a.is_same (place_of at (bytes_in size)) (bytes_in size) signed frame.stack)
stack_load-told how a b frame size signed at same =
    loaded_at-told how a.is_same b.is_same (place_of at (bytes_in size)) (bytes_in size) signed frame.stack
    (λ n m u v. same.names n m (cell_points frame n u) (cell_points frame m v))

context_load-told : {N M : Type 0} → (how : Telling N M) → (context other : List ℕ) (at : ℤ) (bytes : ℕ) (signed : Bool)
    → other ≡ context
    → read_at ContextAccess (place_in (length other) at bytes) bytes signed other
    ≡ result_told how (read_at ContextAccess (place_in (length context) at bytes) bytes signed context)
context_load-told how context other at bytes signed same =
    rw same (read_at-told how ContextAccess (place_in (length context) at bytes) bytes signed context refl)

object_load-told : {N M : Type 0} → (how : Telling N M) → (r : Result Found Trap) (at : ℤ) (bytes : ℕ) (signed : Bool)
    → read_object (found_told how r) at bytes signed ≡ result_told how (read_object r at bytes signed)
object_load-told how (Err trap) at bytes signed = refl
object_load-told how (Ok found) at bytes signed = read_at-told how ObjectBounds (place_in (length found.bytes) at bytes) bytes signed found.bytes refl

loaded-told : {N M : Type 0} → (how : Telling N M)
    → (a : Environment N) (b : Environment M) (frame : Frame N) (size : Size) (signed : Bool) (offset : ℤ) (x : Option (Value N))
    → IsToldAs how a b frame → ((n : N) → Names x n → HasPointer frame n)
    → loaded b (map (cell_renamed how.name) frame.stack) size signed offset (register_renamed how.name x)
    ≡ result_told how (loaded a frame.stack size signed offset x)
loaded-told how a b frame size signed offset None same has = refl
loaded-told how a b frame size signed offset (Some (Number n)) same has = refl
loaded-told how a b frame size signed offset (Some (Pointer Stack k)) same has = stack_load-told how a b frame size signed (k +ℤ offset) same
loaded-told how a b frame size signed offset (Some (Pointer Context k)) same has =
    context_load-told how a.context b.context (k +ℤ offset) (bytes_in size) signed same.context
loaded-told how a b frame size signed offset (Some (Pointer (Object name) k)) same has =
    rw (same.objects name (has name refl)) (object_load-told how (a.object name) (k +ℤ offset) (bytes_in size) signed)

-- ---- stores

rewritten-told : {N M : Type 0} → (how : Telling N M) → (to : ℕ) (frame : Frame N) (r : Result (List (Cell N)) Trap)
    → rewritten to (frame_renamed how.name frame) (stack_told how r) ≡ effect_told how (rewritten to frame r)
rewritten-told how to frame (Err trap) = refl
rewritten-told how to frame (Ok stack) = refl

written_at-told : {N M : Type 0} → (how : Telling N M)
    → (to : ℕ) (frame : Frame N) (name : N) (place : Option ℕ) (bytes : ℕ) (v : Value N)
    → written_at to (frame_renamed how.name frame) (how.name name) place bytes (value_renamed how.name v)
    ≡ effect_told how (written_at to frame name place bytes v)
written_at-told how to frame name None bytes v = refl
written_at-told how to frame name (Some place) bytes (Number n) = refl
written_at-told how to frame name (Some place) bytes (Pointer base k) = refl

object_store-told : {N M : Type 0} → (how : Telling N M)
    → (to : ℕ) (frame : Frame N) (name : N) (r : Result Found Trap) (at : ℤ) (bytes : ℕ) (v : Value N)
    → writes_object to (frame_renamed how.name frame) (how.name name) (found_told how r) at bytes (value_renamed how.name v)
    ≡ effect_told how (writes_object to frame name r at bytes v)
object_store-told how to frame name (Err trap) at bytes v = refl
object_store-told how to frame name (Ok found) at bytes v = written_at-told how to frame name (place_in (length found.bytes) at bytes) bytes v

through-told : {N M : Type 0} → (how : Telling N M)
    → (to : ℕ) (a : Environment N) (b : Environment M) (frame : Frame N) (size : Size) (offset : ℤ) (base v : Value N)
    → IsToldAs how a b frame → ((n : N) → Names (Some base) n → HasPointer frame n)
    → effect_of_store_through to b (frame_renamed how.name frame) size offset (value_renamed how.name base) (value_renamed how.name v)
    ≡ effect_told how (effect_of_store_through to a frame size offset base v)
through-told how to a b frame size offset (Number n) v same has = refl
through-told how to a b frame size offset (Pointer Stack k) v same has =
    rw (stored_at-told how (place_of (k +ℤ offset) (bytes_in size)) (bytes_in size) v frame.stack)
    (rewritten-told how to frame (stored_at (place_of (k +ℤ offset) (bytes_in size)) (bytes_in size) v frame.stack))
through-told how to a b frame size offset (Pointer Context k) v same has = refl
through-told how to a b frame size offset (Pointer (Object name) k) v same has =
    rw (same.objects name (has name refl)) (object_store-told how to frame name (a.object name) (k +ℤ offset) (bytes_in size) v)

effect_of_store-told : {N M : Type 0} → (how : Telling N M)
    → (to : ℕ) (a : Environment N) (b : Environment M) (frame : Frame N) (size : Size) (offset : ℤ) (x y : Option (Value N))
    → IsToldAs how a b frame → ((n : N) → Names x n → HasPointer frame n)
    → effect_of_store to b (frame_renamed how.name frame) size offset (register_renamed how.name x) (register_renamed how.name y)
    ≡ effect_told how (effect_of_store to a frame size offset x y)
effect_of_store-told how to a b frame size offset None y same has = refl
effect_of_store-told how to a b frame size offset (Some base) None same has = refl
effect_of_store-told how to a b frame size offset (Some base) (Some v) same has = through-told how to a b frame size offset base v same has

-- ---- calls

unset-told : {N M : Type 0} → (how : Telling N M) → (frame : Frame N) (r : Reg)
    → unset (frame_renamed how.name frame) r ≡ frame_renamed how.name (unset frame r)
unset-told {N} {M} how frame r =
    ap (λ (registers : List (Option (Value M))). record (frame_renamed how.name frame) { registers = registers })
    (sym (map-set (register_renamed how.name) frame.registers (number_of r) None))

arguments-told : {N M : Type 0} → (how : Telling N M) → (frame : Frame N)
    → without_arguments (frame_renamed how.name frame) ≡ frame_renamed how.name (without_arguments frame)
arguments-told {N} {M} how frame =
    ap (λ (f : Frame M). unset (unset (unset (unset f R2) R3) R4) R5) (unset-told how frame R1)
    ∙ ap (λ (f : Frame M). unset (unset (unset f R3) R4) R5) (unset-told how (unset frame R1) R2)
    ∙ ap (λ (f : Frame M). unset (unset f R4) R5) (unset-told how (unset (unset frame R1) R2) R3)
    ∙ ap (λ (f : Frame M). unset f R5) (unset-told how (unset (unset (unset frame R1) R2) R3) R4)
    ∙ unset-told how (unset (unset (unset (unset frame R1) R2) R3) R4) R5

zero-told : {N M : Type 0} → (how : Telling N M) → (frame : Frame N) → with_zero (frame_renamed how.name frame) ≡ frame_renamed how.name (with_zero frame)
zero-told {N} {M} how frame =
    ap (λ (f : Frame M). with_value f R0 (Number 0)) (arguments-told how frame) ∙ with_value-told how (without_arguments frame) R0 (Number 0)

goes-told : {N M : Type 0} → (how : Telling N M) → (act : Act N) (to : ℕ) (frame : Frame N) (after : Frame M)
    → after ≡ frame_renamed how.name frame → Goes (act_told how act) to after ≡ effect_told how (Goes act to frame)
goes-told {N} {M} how act to frame after same = ap (λ (f : Frame M). Goes (act_told how act) to f) same

-- a call goes on, or is a bad one
or_bad-told : {N M : Type 0} → (how : Telling N M) → (t : Bool) (e : Effect N)
    → cond t (effect_told how e) (Traps BadCall) ≡ effect_told how (cond t e (Traps BadCall))
or_bad-told how true e = refl
or_bad-told how false e = refl

effect_of_new-told : {N M : Type 0} → (how : Telling N M)
    → (to : ℕ) (a : Environment N) (b : Environment M) (frame : Frame N) (x : Option (Value N)) → b.kinds ≡ a.kinds
    → effect_of_new to b (frame_renamed how.name frame) (register_renamed how.name x) ≡ effect_told how (effect_of_new to a frame x)
effect_of_new-told how to a b frame None same = refl
effect_of_new-told how to a b frame (Some (Number kind)) same =
    rw (same, goes-told how (Ask kind) to (without_arguments frame) (without_arguments (frame_renamed how.name frame)) (arguments-told how frame))
    (or_bad-told how (nat_lt kind a.kinds) (Goes (Ask kind) to (without_arguments frame)))
effect_of_new-told how to a b frame (Some (Pointer base k)) same = refl

effect_of_freeing-told : {N M : Type 0} → (how : Telling N M)
    → (to : ℕ) (frame : Frame N) (name : N) (r : Result Found Trap) (k : ℤ)
    → effect_of_freeing to (frame_renamed how.name frame) (how.name name) (found_told how r) k ≡ effect_told how (effect_of_freeing to frame name r k)
effect_of_freeing-told how to frame name (Err trap) k = refl
effect_of_freeing-told how to frame name (Ok found) k =
    rw (goes-told how (Free name) to (with_zero frame) (with_zero (frame_renamed how.name frame)) (zero-told how frame))
    (or_bad-told how (int_eq k (pos 0)) (Goes (Free name) to (with_zero frame)))

effect_of_free-told : {N M : Type 0} → (how : Telling N M)
    → (to : ℕ) (a : Environment N) (b : Environment M) (frame : Frame N) (x : Option (Value N)) → IsToldAs how a b frame
    → ((n : N) → Names x n → HasPointer frame n)
    → effect_of_free to b (frame_renamed how.name frame) (register_renamed how.name x) ≡ effect_told how (effect_of_free to a frame x)
effect_of_free-told how to a b frame None same has = refl
effect_of_free-told how to a b frame (Some (Number n)) same has = refl
effect_of_free-told how to a b frame (Some (Pointer Stack k)) same has = refl
effect_of_free-told how to a b frame (Some (Pointer Context k)) same has = refl
effect_of_free-told how to a b frame (Some (Pointer (Object name) k)) same has =
    rw (same.objects name (has name refl)) (effect_of_freeing-told how to frame name (a.object name) k)

effect_of_emit-told : {N M : Type 0} → (how : Telling N M) → (to : ℕ) (frame : Frame N) (x : Option (Value N))
    → effect_of_emit to (frame_renamed how.name frame) (register_renamed how.name x) ≡ effect_told how (effect_of_emit to frame x)
effect_of_emit-told how to frame None = refl
effect_of_emit-told how to frame (Some (Number n)) =
    goes-told how Nothing to (with_output n (with_zero frame)) (with_output n (with_zero (frame_renamed how.name frame)))
    (ap (with_output n) (zero-told how frame))
effect_of_emit-told how to frame (Some (Pointer base k)) = refl

exchanges-told : {N M : Type 0} → (how : Telling N M) → (to : ℕ) (frame : Frame N) (shelf : ℕ) (given : Option N) (allowed : Bool)
    → exchanges to (frame_renamed how.name frame) shelf (option_map how.name given) allowed ≡ effect_told how (exchanges to frame shelf given allowed)
exchanges-told how to frame shelf given allowed =
    rw (goes-told how (Exchange shelf given) to (without_arguments frame) (without_arguments (frame_renamed how.name frame)) (arguments-told how frame))
    (or_bad-told how allowed (Goes (Exchange shelf given) to (without_arguments frame)))

giving-told : {N M : Type 0} → (how : Telling N M)
    → (to : ℕ) (frame : Frame N) (known : Bool) (shelf : ℕ) (name : N) (r : Result Found Trap) (k : ℤ)
    → effect_of_giving to (frame_renamed how.name frame) known shelf (how.name name) (found_told how r) k
    ≡ effect_told how (effect_of_giving to frame known shelf name r k)
giving-told how to frame known shelf name (Err trap) k = refl
giving-told how to frame known shelf name (Ok found) k = exchanges-told how to frame shelf (Some name) (known && ((found.kind == shelf) && int_eq k (pos 0)))

swapping-told : {N M : Type 0} → (how : Telling N M)
    → (to : ℕ) (a : Environment N) (b : Environment M) (frame : Frame N) (known : Bool) (shelf : ℕ) (given : Value N)
    → IsToldAs how a b frame → ((n : N) → Names (Some given) n → HasPointer frame n)
    → effect_of_swapping to b (frame_renamed how.name frame) known shelf (value_renamed how.name given)
    ≡ effect_told how (effect_of_swapping to a frame known shelf given)
swapping-told how to a b frame known shelf (Number n) same has = exchanges-told how to frame shelf None (known && (n == 0))
swapping-told how to a b frame known shelf (Pointer Stack k) same has = refl
swapping-told how to a b frame known shelf (Pointer Context k) same has = refl
swapping-told how to a b frame known shelf (Pointer (Object name) k) same has =
    rw (same.objects name (has name refl)) (giving-told how to frame known shelf name (a.object name) k)

effect_of_swap-told : {N M : Type 0} → (how : Telling N M)
    → (to : ℕ) (a : Environment N) (b : Environment M) (frame : Frame N) (x y : Option (Value N)) → IsToldAs how a b frame
    → ((n : N) → Names y n → HasPointer frame n)
    → effect_of_swap to b (frame_renamed how.name frame) (register_renamed how.name x) (register_renamed how.name y)
    ≡ effect_told how (effect_of_swap to a frame x y)
effect_of_swap-told how to a b frame None y same has = refl
effect_of_swap-told how to a b frame (Some shelf) None same has = refl
effect_of_swap-told how to a b frame (Some (Number n)) (Some given) same has =
    rw same.kinds (swapping-told how to a b frame (nat_lt n a.kinds) n given same has)
effect_of_swap-told how to a b frame (Some (Pointer base k)) (Some given) same has = swapping-told how to a b frame false 0 given same has

effect_of_call-told : {N M : Type 0} → (how : Telling N M)
    → (helper : Option Helper) (to : ℕ) (a : Environment N) (b : Environment M) (frame : Frame N) → IsToldAs how a b frame
    → effect_of_call helper to b (frame_renamed how.name frame) ≡ effect_told how (effect_of_call helper to a frame)
effect_of_call-told how None to a b frame same = refl
effect_of_call-told how (Some helper.New) to a b frame same = rw (read-told how frame R1) (effect_of_new-told how to a b frame (read frame R1) same.kinds)
effect_of_call-told how (Some helper.Free) to a b frame same =
    rw (read-told how frame R1) (effect_of_free-told how to a b frame (read frame R1) same (read_points frame R1))
effect_of_call-told how (Some helper.Emit) to a b frame same = rw (read-told how frame R1) (effect_of_emit-told how to frame (read frame R1))
effect_of_call-told how (Some helper.Swap) to a b frame same =
    rw (read-told how frame R1, read-told how frame R2) (effect_of_swap-told how to a b frame (read frame R1) (read frame R2) same (read_points frame R2))

-- an effect of the run is the effect as it sees itself
effect-told : {N M : Type 0} → (how : Telling N M) → (i : Insn) (pc : ℕ) (a : Environment N) (b : Environment M) (frame : Frame N)
    → IsToldAs how a b frame → effect i pc b (frame_renamed how.name frame) ≡ effect_told how (effect i pc a frame)
effect-told how (insn.Alu width o dst src) pc a b frame same =
    rw (read-told how frame dst, source-told how frame width src, alu-told how width o (read frame dst) (source_value frame width src))
    (written-told how (pc + 1) frame dst (alu_value width o (read frame dst) (source_value frame width src)))
effect-told how (insn.Sext width bits dst src) pc a b frame same =
    rw (read-told how frame src, unary-told how (extension_at width bits) (read frame src))
    (written-told how (pc + 1) frame dst (unary (extension_at width bits) (read frame src)))
effect-told how (insn.Neg width dst) pc a b frame same =
    rw (read-told how frame dst, unary-told how (negation_at width) (read frame dst))
    (written-told how (pc + 1) frame dst (unary (negation_at width) (read frame dst)))
effect-told how (insn.Swap order bits dst) pc a b frame same =
    rw (read-told how frame dst, unary-told how (swap_of order bits) (read frame dst))
    (written-told how (pc + 1) frame dst (unary (swap_of order bits) (read frame dst)))
effect-told how (insn.Wide dst value) pc a b frame same = written-told how (pc + 2) frame dst (Ok (Number value))
effect-told how (insn.Jump offset) pc a b frame same = effect_of_jump-told how (jump_of (insn.Jump offset) pc) frame
effect-told how (insn.JumpFar offset) pc a b frame same = effect_of_jump-told how (jump_of (insn.JumpFar offset) pc) frame
effect-told how (insn.Branch width condition left right offset) pc a b frame same =
    rw (
      read-told how frame left,
      source-told how frame width right,
      taken-told how width condition right (read frame left)
          (source_value frame width right),
    )
    (effect_of_branch-told how (pc + 1) (jump_of (insn.Branch width condition left right offset) pc) frame
    (is_taken width condition right (read frame left) (source_value frame width right)))
effect-told how insn.Exit pc a b frame same = rw (read-told how frame R0, same.holds) (effect_of_exit-told how a.holds (read frame R0))
effect-told how (insn.Load size signed dst base offset) pc a b frame same =
    rw (read-told how frame base, loaded-told how a b frame size signed offset (read frame base) same (read_points frame base))
    (written-told how (pc + 1) frame dst (loaded a frame.stack size signed offset (read frame base)))
effect-told how (insn.Store size base offset src) pc a b frame same =
    rw (read-told how frame base, source-told how frame W64 src)
    (effect_of_store-told how (pc + 1) a b frame size offset (read frame base) (source_value frame W64 src) same (read_points frame base))
effect-told how (insn.Call number) pc a b frame same = effect_of_call-told how (helper_of number) (pc + 1) a b frame same

pub effect_at-told : {N M : Type 0} → (how : Telling N M)
    → (o : Option Insn) (pc : ℕ) (a : Environment N) (b : Environment M) (frame : Frame N) → IsToldAs how a b frame
    → effect_at o pc b (frame_renamed how.name frame) ≡ effect_told how (effect_at o pc a frame)
effect_at-told how None pc a b frame same = refl
effect_at-told how (Some i) pc a b frame same = effect-told how i pc a b frame same
