-- An instruction makes no pointer to an object that its run had none to.
use Rattle.std.proofs.Common.{◌≡◌, ℕ, zero, suc, ◌<◌, ℤ, pos, Bool, true, false, cond, List, [], ◌∷◌, length, get_or, set, Option, Some, None}
use Rattle.std.proofs.Common.{Result, Ok, Err, refl, sym, subst, arith, inl, inr, ◌⊎◌, ◌+◌, ◌-◌, ◌/◌, ◌+ℤ◌, not}
use Rattle.std.specs.Prelude.{Contains, nat_lt, map, ◌&&◌, ◌==◌}
use Rattle.std.specs.Ordering.{int_eq}
use Rattle.ebpf_insn.specs.declared.register.Reg.{Reg}
use Rattle.ebpf_insn.specs.declared.register.Reg.TheVariants.{R0, R1, R2, R3, R4, R5}
use Rattle.ebpf_insn.specs.declared.insn.Insn.{Insn}
use Rattle.ebpf_insn.specs.declared.insn.Insn.TheVariants as insn
use Rattle.ebpf_insn.specs.declared.insn.Source.{Source}
use Rattle.ebpf_insn.specs.declared.insn.Source.TheVariants.{Register, Imm}
use Rattle.ebpf_insn.specs.declared.insn.AluOp.{AluOp}
use Rattle.ebpf_insn.specs.declared.insn.AluOp.TheVariants as op
use Rattle.ebpf_insn.specs.declared.insn.Width.{Width}
use Rattle.ebpf_insn.specs.declared.insn.Width.TheVariants.{W32, W64}
use Rattle.ebpf_insn.specs.Registers.{number_of}
use Rattle.ebpf_insn.specs.Arithmetic.{kept_at, extension_at, negation_at, swap_of}
use Rattle.ebpf_flow.specs.Edges.{jump_of}
use Rattle.ebpf_verify.specs.Operations.{is_frame_pointer}
use Rattle.ebpf_operation.specs.declared.helper.Helper.{Helper}
use Rattle.ebpf_operation.specs.declared.helper.Helper.TheVariants as helper
use Rattle.ebpf_operation.specs.Helpers.{helper_of}
use Rattle.ebpf_machine.specs.declared.value.Value.{Value}
use Rattle.ebpf_machine.specs.declared.value.Value.TheVariants.{Number, Pointer}
use Rattle.ebpf_machine.specs.declared.value.Base.{Base}
use Rattle.ebpf_machine.specs.declared.value.Base.TheVariants.{Stack, Context, Object}
use Rattle.ebpf_machine.specs.Values.{Trap, ContextAccess, ObjectBounds, PointerMisuse, BadCall, FramePointerWritten, Leak, Frame, read, source_value}
use Rattle.ebpf_machine.specs.Effect.{Found, Environment, Act, Nothing, Ask, Free, Exchange, Effect, Goes, Traps, effect_at, effect, unary, copied}
use Rattle.ebpf_machine.specs.Effect.{moved_on_left, moved_on_right, pointer_to, computed, binary, alu_value, with_value, written, is_taken}
use Rattle.ebpf_machine.specs.Effect.{read_object, loaded, rewritten, written_at, writes_object, effect_of_store_through, effect_of_store, unset}
use Rattle.ebpf_machine.specs.Effect.{without_arguments, with_zero, effect_of_new, effect_of_freeing, effect_of_free, with_output, effect_of_emit}
use Rattle.ebpf_machine.specs.Effect.{is_shelf_number, number_in, exchanges, effect_of_giving, effect_of_swapping, effect_of_swap, effect_of_call}
use Rattle.ebpf_machine.specs.Effect.{effect_of_jump, effect_of_branch, effect_of_exit, result_number}
use Rattle.ebpf_machine.specs.World.{Name}
use Rattle.std.specs.List.{enumerate_from}
use Rattle.std.proofs.lemmas.Bool.{cond_both}
use Rattle.ebpf_insn.specs.declared.insn.Size.{Size}
use Rattle.ebpf_state.specs.Stack.{bytes_in, place_of, is_whole_word}
use Rattle.ebpf_machine.specs.declared.value.Cell.{Cell}
use Rattle.ebpf_machine.specs.declared.value.Cell.TheVariants.{Unset, Byte, Part}
use Rattle.ebpf_machine.specs.Cells.{cell_at, are_parts, pointer_from, number_from, loaded_number, loaded_word, loaded_at, place_in, read_at}
use Rattle.ebpf_machine.specs.Cells.{cell_of, left_over, touches, is_among, stored_cell, stored_cells, is_pointer, stored_at}
use Rattle.ebpf_machine.specs.Sound.{Names, NamesPart, HasPointer, InRegister, InCell}
use Rattle.ebpf_machine.proofs.World.CellsTold.{HasPart, cell_points}

-- an element of a list of which one place was written is the one that was written, or was there
in_set : {X : Type 0} → (xs : List X) (k : ℕ) (a x : X) (i : ℕ) → i < length (set xs k a) → get_or (set xs k a) i x ≡ x → (a ≡ x) ⊎ Contains xs x
in_set [] k a x i lt e = absurd (omega (arith, lt))
in_set (y ∷ ys) zero a x zero lt e = inl e
in_set (y ∷ ys) zero a x (suc i) lt e = inr (suc i, lt, e)
in_set (y ∷ ys) (suc k) a x zero lt e = inr (0, omega arith, e)
in_set (y ∷ ys) (suc k) a x (suc i) lt e = later (in_set ys k a x i (omega (arith, lt)) e) where
  later : (a ≡ x) ⊎ Contains ys x → (a ≡ x) ⊎ Contains (y ∷ ys) x
  later (inl same) = inl same
  later (inr there) = inr (suc there.0, let inside = there.1 in omega arith, there.2)

-- a register that is a pointer to an object is one of the registers
in_registers : {N : Type 0} → (xs : List (Option (Value N))) (k : ℕ) (n : N) → Names (get_or xs k None) n → Contains xs (get_or xs k None)
in_registers [] k n h = absurd h
in_registers (x ∷ xs) zero n h = (0, omega arith, refl)
in_registers (x ∷ xs) (suc k) n h = let there = in_registers xs k n h in let inside = there.1 in (suc there.0, omega arith, there.2)

pub read_points : {N : Type 0} → (frame : Frame N) (r : Reg) (n : N) → Names (read frame r) n → HasPointer frame n
read_points frame r n h = InRegister (read frame r) (in_registers frame.registers (number_of r) n h) h

pub source_points : (frame : Frame Name) (width : Width) (src : Source) (n : Name) → Names (source_value frame width src) n → HasPointer frame n
source_points frame width (Register r) n h = read_points frame r n h
source_points frame width (Imm z) n h = absurd h

-- the result of an operation points where an operand does
abbrev PointsAsBefore : Option (Value Name) → Option (Value Name) → Result (Value Name) Trap → Type 0
PointsAsBefore x y (Err trap) = Unit {0}
PointsAsBefore x y (Ok v) = (n : Name) → Names (Some v) n → Names x n ⊎ Names y n

unary_points : (f : ℕ → ℕ) (x y : Option (Value Name)) → PointsAsBefore x y (unary f y)
unary_points f x None = tt
unary_points f x (Some (Number m)) = λ n h. absurd h
unary_points f x (Some (Pointer base k)) = tt

copied_points : (x y : Option (Value Name)) → PointsAsBefore x y (copied y)
copied_points x None = tt
copied_points x (Some v) = λ n h. inr h

-- the offset of a pointer says nothing of its object
moved_pointer : (base : Base Name) (j k : ℤ) (n : Name) → Names (Some (Pointer base j)) n → Names (Some (Pointer base k)) n
moved_pointer Stack j k n h = absurd h
moved_pointer Context j k n h = absurd h
moved_pointer (Object name) j k n h = h

on_left_points : (base : Base Name) (k : ℤ) (m : ℕ) (to : Option ℤ) → PointsAsBefore (Some (Pointer base k)) (Some (Number m)) (pointer_to base to)
on_left_points base k m None = tt
on_left_points base k m (Some j) = λ n h. inl (moved_pointer base j k n h)

on_right_points : (base : Base Name) (k : ℤ) (m : ℕ) (to : Option ℤ) → PointsAsBefore (Some (Number m)) (Some (Pointer base k)) (pointer_to base to)
on_right_points base k m None = tt
on_right_points base k m (Some j) = λ n h. inr (moved_pointer base j k n h)

computed_points : (width : Width) (o : AluOp) (v w : Value Name) → PointsAsBefore (Some v) (Some w) (computed width o v w)
computed_points width o (Number a) (Number b) = λ n h. absurd h
computed_points width o (Number m) (Pointer base k) = on_right_points base k m (moved_on_right width o m k)
computed_points width o (Pointer base k) (Number m) = on_left_points base k m (moved_on_left width o k m)
computed_points width o (Pointer base k) (Pointer other j) = tt

binary_points : (width : Width) (o : AluOp) (x y : Option (Value Name)) → PointsAsBefore x y (binary width o x y)
binary_points width o None y = tt
binary_points width o (Some v) None = tt
binary_points width o (Some v) (Some w) = computed_points width o v w

alu_points : (width : Width) (o : AluOp) (x y : Option (Value Name)) → PointsAsBefore x y (alu_value width o x y)
alu_points W64 op.Mov x y = copied_points x y
alu_points W32 op.Mov x y = unary_points (kept_at W32) x y
alu_points W32 o x y = binary_points W32 o x y
alu_points W64 o x y = binary_points W64 o x y

-- a frame has no pointer that was not there before
abbrev IsPlain : Frame Name → Frame Name → Type 0
IsPlain before after = (n : Name) → HasPointer after n → HasPointer before n

abbrev IsPlainEffect : Frame Name → Effect Name → Type 0
IsPlainEffect before (Goes act to after) = IsPlain before after
IsPlainEffect before _ = Unit {0}

value_plain : (frame : Frame Name) (dst : Reg) (v : Value Name) → ((n : Name) → Names (Some v) n → HasPointer frame n)
    → IsPlain frame (with_value frame dst v)
value_plain frame dst v from = pointed where
  pointed : (n : Name) → HasPointer (with_value frame dst v) n → HasPointer frame n
  pointed n (InCell c there h) = InCell c there h
  pointed n (InRegister x there h) = by_place (in_set frame.registers (number_of dst) (Some v) x there.0 there.1 there.2) where
    by_place : (Some v ≡ x) ⊎ Contains frame.registers x → HasPointer frame n
    by_place (inl same) = from n (subst (λ (o : Option (Value Name)). Names o n) (sym same) h)
    by_place (inr before) = InRegister x before h

written_plain : (to : ℕ) (frame : Frame Name) (dst : Reg) (x y : Option (Value Name)) (r : Result (Value Name) Trap)
    → ((n : Name) → Names x n → HasPointer frame n) → ((n : Name) → Names y n → HasPointer frame n) → PointsAsBefore x y r
    → IsPlainEffect frame (written to frame dst r)
written_plain to frame dst x y (Err trap) left right points = tt
written_plain to frame dst x y (Ok v) left right points = chosen (is_frame_pointer dst) where
  from : (n : Name) → Names (Some v) n → HasPointer frame n
  from n h = either (points n h) where
    either : Names x n ⊎ Names y n → HasPointer frame n
    either (inl l) = left n l
    either (inr r) = right n r

  chosen : (t : Bool) → IsPlainEffect frame (cond t (Traps FramePointerWritten) (Goes Nothing to (with_value frame dst v)))
  chosen true = tt
  chosen false = value_plain frame dst v from

-- ---- loads and stores

-- a value that is loaded points where a cell does
abbrev PointsIn : List (Cell Name) → Result (Value Name) Trap → Type 0
PointsIn stack (Err trap) = Unit {0}
PointsIn stack (Ok v) = (n : Name) → Names (Some v) n → HasPart stack n

number_points : (stack : List (Cell Name)) (n : Option ℕ) (bytes : ℕ) (signed : Bool) → PointsIn stack (loaded_number n bytes signed)
number_points stack None bytes signed = tt
number_points stack (Some m) bytes signed = λ n h. absurd h

word_points : (one : Name → Name → Bool) (c : Cell Name) (stack : List (Cell Name)) (place : ℕ) (number : Option ℕ) (bytes : ℕ) (signed : Bool)
    → ((n : Name) → NamesPart c n → HasPart stack n)
    → PointsIn stack (loaded_word (pointer_from one c stack place) number bytes signed)
word_points one Unset stack place number bytes signed among = number_points stack number bytes signed
word_points one (Byte b) stack place number bytes signed among = number_points stack number bytes signed
word_points one (Part v j) stack place number bytes signed among = found (are_parts one v stack place 8) where
  found : (t : Bool) → PointsIn stack (loaded_word (cond t (Some v) None) number bytes signed)
  found true = among
  found false = number_points stack number bytes signed

loaded_points : (one : Name → Name → Bool) (place : Option ℕ) (bytes : ℕ) (signed : Bool) (stack : List (Cell Name))
    → PointsIn stack (loaded_at one place bytes signed stack)
loaded_points one None bytes signed stack = tt
loaded_points one (Some place) bytes signed stack =
    cond_both (is_whole_word place bytes) (loaded_word (pointer_from one (cell_at stack place) stack place) (number_from stack place bytes) bytes signed)
    (loaded_number (number_from stack place bytes) bytes signed) (PointsIn stack)
    (λ e. word_points one (cell_at stack place) stack place (number_from stack place bytes) bytes signed (λ n part. (place, part)))
    (λ e. number_points stack (number_from stack place bytes) bytes signed)

load_plain : (to : ℕ) (frame : Frame Name) (dst : Reg) (r : Result (Value Name) Trap) → PointsIn frame.stack r → IsPlainEffect frame (written to frame dst r)
load_plain to frame dst (Err trap) points = tt
load_plain to frame dst (Ok v) points = chosen (is_frame_pointer dst) where
  chosen : (t : Bool) → IsPlainEffect frame (cond t (Traps FramePointerWritten) (Goes Nothing to (with_value frame dst v)))
  chosen true = tt
  chosen false = value_plain frame dst v (λ n h. cell_points frame n (points n h))

read_points_nowhere : (stack : List (Cell Name)) (outside : Trap) (place : Option ℕ) (bytes : ℕ) (signed : Bool) (source : List ℕ)
    → PointsIn stack (read_at outside place bytes signed source)
read_points_nowhere stack outside None bytes signed source = tt
read_points_nowhere stack outside (Some place) bytes signed source = λ n h. absurd h

object_points_nowhere : (stack : List (Cell Name)) (r : Result Found Trap) (at : ℤ) (bytes : ℕ) (signed : Bool)
    → PointsIn stack (read_object r at bytes signed)
object_points_nowhere stack (Err trap) at bytes signed = tt
object_points_nowhere stack (Ok found) at bytes signed =
    read_points_nowhere stack ObjectBounds (place_in (length found.bytes) at bytes) bytes signed found.bytes

through_points : (a : Environment Name) (stack : List (Cell Name)) (size : Size) (signed : Bool) (offset : ℤ) (x : Option (Value Name))
    → PointsIn stack (loaded a stack size signed offset x)
through_points a stack size signed offset None = tt
through_points a stack size signed offset (Some (Number n)) = tt
through_points a stack size signed offset (Some (Pointer Stack k)) =
    loaded_points a.is_same (place_of (k +ℤ offset) (bytes_in size)) (bytes_in size) signed stack
through_points a stack size signed offset (Some (Pointer Context k)) =
    read_points_nowhere stack ContextAccess (place_in (length a.context) (k +ℤ offset) (bytes_in size)) (bytes_in size) signed a.context
through_points a stack size signed offset (Some (Pointer (Object name) k)) = object_points_nowhere stack (a.object name) (k +ℤ offset) (bytes_in size) signed

-- a cell after a store is of the value, or was there
stored_from : (place bytes : ℕ) (v : Value Name) (i : ℕ) (old c : Cell Name) (n : Name) → stored_cell place bytes v i old ≡ c
    → NamesPart c n → Names (Some v) n ⊎ NamesPart old n
stored_from place bytes v i old c n e h = of_cell (subst (λ (x : Cell Name). NamesPart x n) (sym e) h) where
  of_value : (v : Value Name) (j : ℕ) → NamesPart (cell_of v j) n → Names (Some v) n
  of_value (Number m) j part = absurd part
  of_value (Pointer base k) j part = part

  of_rest : (old : Cell Name) → NamesPart (left_over old) n → NamesPart old n
  of_rest Unset part = absurd part
  of_rest (Byte b) part = absurd part
  of_rest (Part u j) part = absurd part

  by : (t u : Bool) → NamesPart (cond t (cell_of v (i - place)) (cond u (left_over old) old)) n → Names (Some v) n ⊎ NamesPart old n
  by true u part = inl (of_value v (i - place) part)
  by false true part = inr (of_rest old part)
  by false false part = inr part

  of_cell : NamesPart (stored_cell place bytes v i old) n → Names (Some v) n ⊎ NamesPart old n
  of_cell part = by (is_among place bytes i) (touches place bytes (i / 8)) part

-- an element of a list that was changed place by place
in_changed : {X Y : Type 0} (f : ℕ × X → Y) (xs : List X) (from : ℕ) (y : Y) (i : ℕ) → i < length (map f (enumerate_from from xs))
    → get_or (map f (enumerate_from from xs)) i y ≡ y → (k : ℕ) × (x : X) × Contains xs x × (f (k, x) ≡ y)
in_changed f [] from y i lt e = absurd (omega (arith, lt))
in_changed f (x ∷ xs) from y zero lt e = (from, x, (0, omega arith, refl), e)
in_changed f (x ∷ xs) from y (suc i) lt e =
    let there = in_changed f xs (from + 1) y i (omega (arith, lt)) e in
    let among = there.2 in
    let inside = among.1 in
    (there.0, there.1, (suc among.0, omega arith, among.2), there.3)

stack_plain : (to : ℕ) (frame : Frame Name) (place bytes : ℕ) (v : Value Name)
    → ((n : Name) → Names (Some v) n → HasPointer frame n)
    → IsPlain frame (record frame { stack = stored_cells place bytes v frame.stack })
stack_plain to frame place bytes v from = pointed where
  old_or_new : (n : Name) (old : Cell Name) → Contains frame.stack old → Names (Some v) n ⊎ NamesPart old n → HasPointer frame n
  old_or_new n old among (inl named) = from n named
  old_or_new n old among (inr part) = InCell old among part

  pointed : (n : Name) → HasPointer (record frame { stack = stored_cells place bytes v frame.stack }) n → HasPointer frame n
  pointed n (InRegister x there h) = InRegister x there h
  pointed n (InCell c there h) =
      let it = in_changed (λ p. stored_cell place bytes v p.0 p.1) frame.stack 0 c there.0 there.1 there.2 in
      old_or_new n it.1 it.2 (stored_from place bytes v it.0 it.1 c n it.3 h)

stored_at_plain : (to : ℕ) (frame : Frame Name) (place : Option ℕ) (bytes : ℕ) (v : Value Name)
    → ((n : Name) → Names (Some v) n → HasPointer frame n)
    → IsPlainEffect frame (rewritten to frame (stored_at place bytes v frame.stack))
stored_at_plain to frame None bytes v from = tt
stored_at_plain to frame (Some place) bytes v from = chosen (is_pointer v && not (is_whole_word place bytes)) where
  chosen : (t : Bool) → IsPlainEffect frame (rewritten to frame (cond t (Err PointerMisuse) (Ok (stored_cells place bytes v frame.stack))))
  chosen true = tt
  chosen false = stack_plain to frame place bytes v from

written_at_plain : (to : ℕ) (frame : Frame Name) (name : Name) (place : Option ℕ) (bytes : ℕ) (v : Value Name)
    → IsPlainEffect frame (written_at to frame name place bytes v)
written_at_plain to frame name None bytes v = tt
written_at_plain to frame name (Some place) bytes (Number m) = λ n h. h
written_at_plain to frame name (Some place) bytes (Pointer base k) = tt

object_plain : (to : ℕ) (frame : Frame Name) (name : Name) (r : Result Found Trap) (at : ℤ) (bytes : ℕ) (v : Value Name)
    → IsPlainEffect frame (writes_object to frame name r at bytes v)
object_plain to frame name (Err trap) at bytes v = tt
object_plain to frame name (Ok found) at bytes v = written_at_plain to frame name (place_in (length found.bytes) at bytes) bytes v

through_plain : (to : ℕ) (a : Environment Name) (frame : Frame Name) (size : Size) (offset : ℤ) (base v : Value Name)
    → ((n : Name) → Names (Some v) n → HasPointer frame n)
    → IsPlainEffect frame (effect_of_store_through to a frame size offset base v)
through_plain to a frame size offset (Number m) v from = tt
through_plain to a frame size offset (Pointer Stack k) v from = stored_at_plain to frame (place_of (k +ℤ offset) (bytes_in size)) (bytes_in size) v from
through_plain to a frame size offset (Pointer Context k) v from = tt
through_plain to a frame size offset (Pointer (Object name) k) v from = object_plain to frame name (a.object name) (k +ℤ offset) (bytes_in size) v

store_plain : (to : ℕ) (a : Environment Name) (frame : Frame Name) (size : Size) (offset : ℤ) (x y : Option (Value Name))
    → ((n : Name) → Names y n → HasPointer frame n) → IsPlainEffect frame (effect_of_store to a frame size offset x y)
store_plain to a frame size offset None y from = tt
store_plain to a frame size offset (Some base) None from = tt
store_plain to a frame size offset (Some base) (Some v) from = through_plain to a frame size offset base v from

-- ---- calls

-- a register that is set to what is no pointer to an object
unset_plain : (frame : Frame Name) (r : Reg) → IsPlain frame (unset frame r)
unset_plain frame r n (InCell c there h) = InCell c there h
unset_plain frame r n (InRegister x there h) = by_place (in_set frame.registers (number_of r) None x there.0 there.1 there.2) where
  by_place : (None ≡ x) ⊎ Contains frame.registers x → HasPointer frame n
  by_place (inl same) = absurd (subst (λ (o : Option (Value Name)). Names o n) (sym same) h)
  by_place (inr before) = InRegister x before h

arguments_plain : (frame : Frame Name) → IsPlain frame (without_arguments frame)
arguments_plain frame n h =
    unset_plain frame R1 n
    (unset_plain (unset frame R1) R2 n
    (unset_plain (unset (unset frame R1) R2) R3 n
    (unset_plain (unset (unset (unset frame R1) R2) R3) R4 n
    (unset_plain (unset (unset (unset (unset frame R1) R2) R3) R4) R5 n h))))

zero_plain : (frame : Frame Name) → IsPlain frame (with_zero frame)
zero_plain frame n h = arguments_plain frame n (value_plain (without_arguments frame) R0 (Number 0) (λ m named. absurd named) n h)

output_plain : (m : ℕ) (frame : Frame Name) → IsPlain frame (with_output m frame)
output_plain m frame n (InRegister x there h) = InRegister x there h
output_plain m frame n (InCell c there h) = InCell c there h

or_bad_plain : (frame : Frame Name) (t : Bool) (act : Act Name) (to : ℕ) (after : Frame Name) → IsPlain frame after
    → IsPlainEffect frame (cond t (Goes act to after) (Traps BadCall))
or_bad_plain frame true act to after plain = plain
or_bad_plain frame false act to after plain = tt

news_plain : (to : ℕ) (a : Environment Name) (frame : Frame Name) (x : Option (Value Name)) → IsPlainEffect frame (effect_of_new to a frame x)
news_plain to a frame None = tt
news_plain to a frame (Some (Number kind)) = or_bad_plain frame (nat_lt kind a.kinds) (Ask kind) to (without_arguments frame) (arguments_plain frame)
news_plain to a frame (Some (Pointer base k)) = tt

gives_plain : (to : ℕ) (frame : Frame Name) (name : Name) (r : Result Found Trap) (k : ℤ) → IsPlainEffect frame (effect_of_freeing to frame name r k)
gives_plain to frame name (Err trap) k = tt
gives_plain to frame name (Ok found) k = or_bad_plain frame (int_eq k (pos 0)) (Free name) to (with_zero frame) (zero_plain frame)

frees_plain : (to : ℕ) (a : Environment Name) (frame : Frame Name) (x : Option (Value Name)) → IsPlainEffect frame (effect_of_free to a frame x)
frees_plain to a frame None = tt
frees_plain to a frame (Some (Number m)) = tt
frees_plain to a frame (Some (Pointer Stack k)) = tt
frees_plain to a frame (Some (Pointer Context k)) = tt
frees_plain to a frame (Some (Pointer (Object name) k)) = gives_plain to frame name (a.object name) k

emits_plain : (to : ℕ) (frame : Frame Name) (x : Option (Value Name)) → IsPlainEffect frame (effect_of_emit to frame x)
emits_plain to frame None = tt
emits_plain to frame (Some (Number m)) = λ n h. zero_plain frame n (output_plain m (with_zero frame) n h)
emits_plain to frame (Some (Pointer base k)) = tt

exchanges_plain : (to : ℕ) (frame : Frame Name) (shelf : ℕ) (given : Option Name) (allowed : Bool)
    → IsPlainEffect frame (exchanges to frame shelf given allowed)
exchanges_plain to frame shelf given allowed = or_bad_plain frame allowed (Exchange shelf given) to (without_arguments frame) (arguments_plain frame)

giving_plain : (to : ℕ) (frame : Frame Name) (known : Bool) (shelf : ℕ) (name : Name) (r : Result Found Trap) (k : ℤ)
    → IsPlainEffect frame (effect_of_giving to frame known shelf name r k)
giving_plain to frame known shelf name (Err trap) k = tt
giving_plain to frame known shelf name (Ok found) k = exchanges_plain to frame shelf (Some name) (known && ((found.kind == shelf) && int_eq k (pos 0)))

swapping_plain : (to : ℕ) (a : Environment Name) (frame : Frame Name) (known : Bool) (shelf : ℕ) (given : Value Name)
    → IsPlainEffect frame (effect_of_swapping to a frame known shelf given)
swapping_plain to a frame known shelf (Number n) = exchanges_plain to frame shelf None (known && (n == 0))
swapping_plain to a frame known shelf (Pointer Stack k) = tt
swapping_plain to a frame known shelf (Pointer Context k) = tt
swapping_plain to a frame known shelf (Pointer (Object name) k) = giving_plain to frame known shelf name (a.object name) k

swaps_plain : (to : ℕ) (a : Environment Name) (frame : Frame Name) (x y : Option (Value Name)) → IsPlainEffect frame (effect_of_swap to a frame x y)
swaps_plain to a frame None y = tt
swaps_plain to a frame (Some shelf) None = tt
swaps_plain to a frame (Some shelf) (Some given) = swapping_plain to a frame (is_shelf_number a.kinds shelf) (number_in shelf) given

calls_plain : (helper : Option Helper) (to : ℕ) (a : Environment Name) (frame : Frame Name) → IsPlainEffect frame (effect_of_call helper to a frame)
calls_plain None to a frame = tt
calls_plain (Some helper.New) to a frame = news_plain to a frame (read frame R1)
calls_plain (Some helper.Free) to a frame = frees_plain to a frame (read frame R1)
calls_plain (Some helper.Emit) to a frame = emits_plain to frame (read frame R1)
calls_plain (Some helper.Swap) to a frame = swaps_plain to a frame (read frame R1) (read frame R2)

-- ---- every instruction

-- an operation on one number
number_plain : (to : ℕ) (frame : Frame Name) (dst : Reg) (f : ℕ → ℕ) (src : Reg) → IsPlainEffect frame (written to frame dst (unary f (read frame src)))
number_plain to frame dst f src =
    written_plain to frame dst (read frame src) (read frame src) (unary f (read frame src)) (read_points frame src) (read_points frame src)
    (unary_points f (read frame src) (read frame src))

jumps_plain : (target : Option ℕ) (frame : Frame Name) → IsPlainEffect frame (effect_of_jump target frame)
jumps_plain None frame = tt
jumps_plain (Some to) frame = λ n h. h

branches_plain : (next : ℕ) (target : Option ℕ) (frame : Frame Name) (r : Result Bool Trap) → IsPlainEffect frame (effect_of_branch next target frame r)
branches_plain next target frame (Err trap) = tt
branches_plain next target frame (Ok true) = jumps_plain target frame
branches_plain next target frame (Ok false) = λ n h. h

exits_plain : (frame : Frame Name) (holds : ℕ) (x : Option (Value Name)) → IsPlainEffect frame (effect_of_exit holds x)
exits_plain frame holds None = tt
exits_plain frame holds (Some v) = leaks (nat_lt 0 holds) v where
  returns : (v : Value Name) → IsPlainEffect frame (result_number v)
  returns (Number n) = tt
  returns (Pointer base k) = tt

  leaks : (t : Bool) (v : Value Name) → IsPlainEffect frame (cond t (Traps Leak) (result_number v))
  leaks true v = tt
  leaks false v = returns v

effect_plain : (i : Insn) (pc : ℕ) (a : Environment Name) (frame : Frame Name) → IsPlainEffect frame (effect i pc a frame)
effect_plain (insn.Alu width o dst src) pc a frame =
    written_plain _ frame dst (read frame dst) (source_value frame width src) (alu_value width o (read frame dst) (source_value frame width src))
    (read_points frame dst) (source_points frame width src) (alu_points width o (read frame dst) (source_value frame width src))
effect_plain (insn.Sext width bits dst src) pc a frame = number_plain _ frame dst (extension_at width bits) src
effect_plain (insn.Neg width dst) pc a frame = number_plain _ frame dst (negation_at width) dst
effect_plain (insn.Swap order bits dst) pc a frame = number_plain _ frame dst (swap_of order bits) dst
effect_plain (insn.Wide dst value) pc a frame = written_plain _ frame dst None None (Ok (Number value)) (λ n h. absurd h) (λ n h. absurd h) (λ n h. absurd h)
effect_plain (insn.Jump offset) pc a frame = jumps_plain (jump_of (insn.Jump offset) pc) frame
effect_plain (insn.JumpFar offset) pc a frame = jumps_plain (jump_of (insn.JumpFar offset) pc) frame
effect_plain (insn.Branch width condition left right offset) pc a frame =
    branches_plain _ (jump_of (insn.Branch width condition left right offset) pc) frame
    (is_taken width condition right (read frame left) (source_value frame width right))
effect_plain insn.Exit pc a frame = exits_plain frame a.holds (read frame R0)
effect_plain (insn.Load size signed dst base offset) pc a frame =
    load_plain _ frame dst (loaded a frame.stack size signed offset (read frame base)) (through_points a frame.stack size signed offset (read frame base))
effect_plain (insn.Store size base offset src) pc a frame =
    store_plain _ a frame size offset (read frame base) (source_value frame W64 src) (source_points frame W64 src)
effect_plain (insn.Call number) pc a frame = calls_plain (helper_of number) _ a frame

effect_at_plain : (o : Option Insn) (pc : ℕ) (a : Environment Name) (frame : Frame Name) → IsPlainEffect frame (effect_at o pc a frame)
effect_at_plain None pc a frame = tt
effect_at_plain (Some i) pc a frame = effect_plain i pc a frame

pub plain_goes : (o : Option Insn) (pc : ℕ) (a : Environment Name) (frame : Frame Name) (act : Act Name) (to : ℕ) (after : Frame Name)
    → effect_at o pc a frame ≡ Goes act to after → (n : Name) → HasPointer after n → HasPointer frame n
plain_goes o pc a frame act to after e = subst (IsPlainEffect frame) e (effect_at_plain o pc a frame)
