-- Stores that are not refused.
use Rattle.std.proofs.Common.{◌≡◌, ℕ, ◌+◌, ◌+ℤ◌, true, false, not, ◌||◌, List, [], ◌∷◌, length, map, Option, Some, None, Result, Ok, Err, refl}
use Rattle.std.proofs.Common.{sym, ap, ◌∙◌, subst, inl, arith}
use Rattle.std.specs.Prelude.{ℤ, nat_abs, ◌==◌}
use Rattle.std.proofs.lemmas.Bool.{cond_both, not-false}
use Rattle.byteorder.specs.Endian.{little_bytes}
use Rattle.ebpf_insn.specs.declared.register.Reg.{Reg}
use Rattle.ebpf_insn.specs.declared.insn.Insn.TheVariants as insn
use Rattle.ebpf_insn.specs.declared.insn.Size.{Size}
use Rattle.ebpf_insn.specs.declared.insn.Source.{Source}
use Rattle.ebpf_insn.specs.declared.insn.Width.TheVariants.{W64}
use Rattle.ebpf_insn.specs.Faults.{first_of}
use Rattle.ebpf_state.specs.declared.value.Abs.{Abs}
use Rattle.ebpf_state.specs.declared.value.Abs.TheVariants.{Unset, Num, Stk, Ctx, Ob, May}
use Rattle.ebpf_state.specs.declared.stack.StackFault.{StackFault}
use Rattle.ebpf_state.specs.Abstract.{is_unset, is_may}
use Rattle.ebpf_state.specs.Stack.{bytes_in, place_of, may_point}
use Rattle.ebpf_state.specs.Stack as state
use Rattle.ebpf_state.specs.StateView.{StateView}
use Rattle.ebpf_state.specs.States.{register_of}
use Rattle.ebpf_verify.specs.declared.fault.VerifyCode.{VerifyCode}
use Rattle.ebpf_verify.specs.declared.fault.VerifyCode.TheVariants.{UnsetRegister, UntestedAnswer, NumberAsAddress}
use Rattle.ebpf_verify.specs.Memory.{is_number, refused_access, is_in_bounds, size_held, writing_refusal, state_after, after_store}
use Rattle.ebpf_verify.specs.Branches.{operand}
use Rattle.ebpf_verify.specs.Rules.{after_fall}
use Rattle.ebpf_machine.specs.declared.value.Value.{Value}
use Rattle.ebpf_machine.specs.declared.value.Value.TheVariants.{Number, Pointer}
use Rattle.ebpf_machine.specs.declared.value.Base.TheVariants.{Stack, Context, Object}
use Rattle.ebpf_machine.specs.declared.value.Cell.{Cell}
use Rattle.ebpf_machine.specs.Bytes.{patched}
use Rattle.ebpf_machine.specs.Values.{Trap, Frame, read, source_value}
use Rattle.ebpf_machine.specs.Cells.{place_in, stored_at}
use Rattle.ebpf_machine.specs.Effect.{Found, Nothing, Write, Goes, effect, rewritten, writes_object, effect_of_store}
use Rattle.ebpf_machine.specs.View.{ObjectView, RunView, environment_of_view, object_at, patched_at, moved_to}
use Rattle.ebpf_machine.specs.Concretization.{IsOf, calls_of}
use Rattle.ebpf_machine.specs.Sound.{FitsValue, FitsRegister}
use Rattle.ebpf_machine.proofs.Rules.Operations.{none_first, neither, set_value}
use Rattle.ebpf_machine.proofs.Rules.Entries.{fall_arrives}
use Rattle.ebpf_machine.proofs.Rules.Loads.{place_between}
use Rattle.ebpf_machine.proofs.Rules.Stores.{IsStored, AreKnown, IsKnown, stack_store_sound}
use Rattle.ebpf_machine.proofs.Rules.Alike.{named, AreAlike, sound_alike}
use Rattle.ebpf_machine.proofs.Rules.Found.{held_found}
use Rattle.ebpf_machine.proofs.Rules.Next.{IsHere, IsNext, entered_here, defined_in, frame_of, stays_there, there_sound, goes_on, goes_quietly}
use Rattle.ebpf_machine.proofs.Rules.Operands.{operand_sound, source_fits, register_holds}
use Rattle.ebpf_machine.proofs.Rules.LoadsSound.{neither_refuses}

abbrev store_tests : Abs → Abs → Option VerifyCode
store_tests base value = first_of (
    (is_unset base || is_unset value, UnsetRegister) ∷
    (is_number base, NumberAsAddress) ∷
    (is_may base, UntestedAnswer) ∷
    [])

-- what a store does with an address and a value of which this is known, and what its rule says
record IsStore (v : RunView) (size : Size) (base : Reg) (offset : ℤ) (src : Source) (s : StateView) (known value : Abs) (address : Value ℕ)
    (stored : Value ℕ) : Type 0 where
  here : IsHere v (insn.Store size base offset src) s
  does : effect (insn.Store size base offset src) v.pc (environment_of_view v) v.frame
      ≡ effect_of_store (v.pc + 1) (environment_of_view v) v.frame size offset (Some address) (Some stored)
  sends : after_fall v.pc (insn.Store size base offset src) s ≡ after_store size offset known value s
  fine : writing_refusal v.subject.rows size offset known value s ≡ None
  fits : FitsValue stored
  unset : is_unset value ≡ false
  of : IsOf (calls_of v.objects) value (Some stored)

-- ---- to the stack

-- what is known after a store to the stack, and the stack that it leaves
record IsStoredAt (calls : List ℕ) (s : StateView) (after : Option StateView) (store : Result (List (Cell ℕ)) Trap) : Type 0 where
  then : StateView
  sends : after ≡ Some then
  stored : IsStored calls s then store

stack_stored : {calls : List ℕ} (size : Size) (offset : ℤ) {value : Abs} {v : Value ℕ} (s : StateView) {stack : List (Cell ℕ)}
    (store : Result StateView StackFault)
    → state.stored s size offset value ≡ store → refused_access store ≡ None → AreKnown calls s.words stack → IsKnown calls value v
    → IsStoredAt calls s (state_after store) (stored_at (place_of offset (bytes_in size)) (bytes_in size) v stack)
stack_stored size offset s (Err fault) stored fine are is = absurd (cc)
stack_stored size offset s (Ok then) stored fine are is =
    record { then = then; sends = refl; stored = stack_store_sound s then size offset are is stored }

to_stack : {v : RunView} {size : Size} {base : Reg} {offset : ℤ} {src : Source} {s : StateView} (k w : ℤ) {value : Abs} {stored : Value ℕ}
    → w ≡ k → IsStore v size base offset src s (Stk k) value (Pointer Stack w) stored → IsNext v
to_stack {v} {size} {base} {offset} {src} {s} k w {value} {stored} same h =
    let i = insn.Store size base offset src in
    let here = h.here in
    let frame = frame_of v here.sound in
    let are : AreKnown (calls_of v.objects) s.words v.frame.stack =
    record { each = here.state.words; many = here.full.deep; deep = frame.deep; fit = frame.fit.stack } in
    let is : IsKnown (calls_of v.objects) value stored = record { is_set = h.unset; of = h.of; fits = h.fits } in
    let it = stack_stored size (k +ℤ offset) s (state.stored s size (k +ℤ offset) value) refl h.fine are is in
    let after = record v.frame { stack = it.stored.stack } in
    let writes : effect i v.pc (environment_of_view v) v.frame ≡ Goes Nothing (v.pc + 1) after =
    h.does ∙ ap (λ (z : ℤ). rewritten (v.pc + 1) v.frame (stored_at (place_of (z +ℤ offset) (bytes_in size)) (bytes_in size) stored v.frame.stack)) same
    ∙ ap (rewritten (v.pc + 1) v.frame) it.stored.is in
    goes_quietly v i s (v.pc + 1) after here writes (inl refl) (record {
      whole = frame.whole;
      deep = it.stored.deep;
      pointer = frame.pointer;
      fit = record { registers = frame.fit.registers; stack = it.stored.fit };
    })
    (fall_arrives (v.pc + 1) (entered_here here) (h.sends ∙ it.sends) refl (omega arith)
    (record {
      each = λ j lt. rw it.stored.registers (here.state.each j lt);
      words = it.stored.words;
      held = rw it.stored.held here.state.held;
    }))

-- ---- to an object

-- a write changes neither calls nor kinds
patched_alike : (call at : ℕ) (bytes : List ℕ) (objects : List ObjectView) → AreAlike objects (map (patched_at call at bytes) objects)
patched_alike call at bytes [] = refl
patched_alike call at bytes (o ∷ objects) =
    let rest = patched_alike call at bytes objects in
    let same : named o ≡ named (patched_at call at bytes o) =
    cond_both (o.call == call) (record o { bytes = patched o.bytes at bytes }) o (λ (p : ObjectView). named o ≡ named p) (λ e. refl) (λ e. refl) in
    λ j. same j ∷ rest j

-- a value that is no pointer, and may not be one, is a number
plain_number : (calls : List ℕ) (value : Abs) (v : Value ℕ) → is_unset value ≡ false → may_point value ≡ false
    → IsOf calls value (Some v) → (n : ℕ) × (v ≡ Number n)
plain_number calls (Num a) (Number n) known plain h = (n, refl)
plain_number calls (Num a) (Pointer base k) known plain h = absurd h
plain_number calls Unset v known plain h = absurd (cc)
plain_number calls (Stk k) v known plain h = absurd (cc)
plain_number calls (Ctx a b) v known plain h = absurd (cc)
plain_number calls (Ob r a b) v known plain h = absurd (cc)
plain_number calls (May r) v known plain h = absurd (cc)

number_written : (to : ℕ) (frame : Frame ℕ) (name : ℕ) (there : Result Found Trap) (found : Found) (offset : ℤ) (bytes place n : ℕ) (v : Value ℕ)
    → there ≡ Ok found → place_in (length found.bytes) offset bytes ≡ Some place → v ≡ Number n
    → writes_object to frame name there offset bytes v ≡ Goes (Write name place (little_bytes bytes n)) to frame
number_written to frame name there found offset bytes place n v is at number = rw (is, at, number) refl

to_object : {v : RunView} {size : Size} {base : Reg} {offset : ℤ} {src : Source} {s : StateView} (call : ℕ) (low high w : ℤ) (at : ℕ) {value : Abs}
    {stored : Value ℕ}
    → IsOf (calls_of v.objects) (Ob call low high) (Some (Pointer (Object at) w))
    → IsStore v size base offset src s (Ob call low high) value (Pointer (Object at) w) stored → IsNext v
to_object {v} {size} {base} {offset} {src} {s} call low high w at {value} {stored} address h =
    let i = insn.Store size base offset src in
    let here = h.here in
    let frame = frame_of v here.sound in
    let bounds = none_first (not (is_in_bounds (size_held v.subject.rows call s) low high offset (bytes_in size))) _ _ h.fine in
    let plain = none_first (may_point value) _ _ bounds.1 in
    let number = plain_number (calls_of v.objects) value stored h.unset plain.0 h.of in
    let it = held_found v s call here.sized here.state.held address.3 in
    let inside = subst (λ (len : ℕ). is_in_bounds len low high offset (bytes_in size) ≡ true) (sym it.long)
    (not-false (is_in_bounds (size_held v.subject.rows call s) low high offset (bytes_in size)) bounds.0) in
    let place = nat_abs (w +ℤ offset) in
    let bytes = little_bytes (bytes_in size) number.0 in
    let writes = h.does ∙ number_written (v.pc + 1) v.frame at (object_at v.objects at) it.found (w +ℤ offset) (bytes_in size) place number.0 stored
    (ap (object_at v.objects) address.0 ∙ it.is)
    (place_between (length it.found.bytes) (bytes_in size) low high w offset address.1 address.2 inside) number.1 in
    let there = fall_arrives (v.pc + 1) (entered_here here) h.sends refl
    (omega arith) here.state in
    let gone_on = there_sound v i s (v.pc + 1) v.frame v.objects v.replies v.taken here (inl refl)
    (stays_there v i s (v.pc + 1) v.frame here (omega arith) frame there) in
    goes_on v i s (Write at place bytes) (v.pc + 1) v.frame here writes (inl refl) frame.fit tt
    (λ reply. sound_alike (moved_to (v.pc + 1) v.frame v) (map (patched_at at place bytes) v.objects) (patched_alike at place bytes v.objects) gone_on)

-- ---- the table

-- the address of a store that is not refused is a pointer to the stack or to an object
store_to : {v : RunView} {size : Size} {base : Reg} {offset : ℤ} {src : Source} {s : StateView} (known : Abs) {value : Abs} (address : Value ℕ)
    {stored : Value ℕ}
    → is_unset known ≡ false → is_number known ≡ false → is_may known ≡ false → IsOf (calls_of v.objects) known (Some address)
    → IsStore v size base offset src s known value address stored → IsNext v
store_to (Stk k) (Pointer Stack w) known no_number no_may of h = to_stack k w of h
store_to (Ob call low high) (Pointer (Object at) w) known no_number no_may of h =
    to_object call low high w at of h
store_to (Ctx low high) address known no_number no_may of h = let fine = h.fine in absurd (cc)
store_to Unset address known no_number no_may of h = absurd (cc)
store_to (Num a) address known no_number no_may of h = absurd (cc)
store_to (May call) address known no_number no_may of h = absurd (cc)
store_to (Stk k) (Number n) known no_number no_may of h = absurd of
store_to (Stk k) (Pointer Context w) known no_number no_may of h = absurd of
store_to (Stk k) (Pointer (Object at) w) known no_number no_may of h = absurd of
store_to (Ob call low high) (Number n) known no_number no_may of h = absurd of
store_to (Ob call low high) (Pointer Stack w) known no_number no_may of h = absurd of
store_to (Ob call low high) (Pointer Context w) known no_number no_may of h = absurd of

pub store_next : {v : RunView} (size : Size) (base : Reg) (offset : ℤ) (src : Source) {s : StateView} → IsHere v (insn.Store size base offset src) s
    → IsNext v
store_next {v} size base offset src {s} here =
    let i = insn.Store size base offset src in
    let source = (defined_in v here.sound v.pc i here.at).0 in
    let known = register_of s base in
    let value = operand s W64 src in
    let tests = neither_refuses (store_tests known value) (writing_refusal v.subject.rows size offset known value s) here.fine in
    let unset = none_first (is_unset known || is_unset value) _ _ tests.0 in
    let sets = neither (is_unset known) (is_unset value) unset.0 in
    let number = none_first (is_number known) _ _ unset.1 in
    let may = none_first (is_may known) _ _ number.1 in
    let address = set_value (calls_of v.objects) known (read v.frame base) sets.0 (register_holds v i s base here) in
    let stored = set_value (calls_of v.objects) value (source_value v.frame W64 src) sets.1 (operand_sound s v.frame v.objects W64 src source here.state) in
    store_to known address.0 sets.0 number.0 may.0 address.2 (record {
      here = here;
      does = ap (λ (x : Option (Value ℕ)). effect_of_store (v.pc + 1) (environment_of_view v) v.frame size offset x (source_value v.frame W64 src))
          address.1 ∙ ap (effect_of_store (v.pc + 1) (environment_of_view v) v.frame size offset (Some address.0)) stored.1;
      sends = refl;
      fine = tests.1;
      fits = subst FitsRegister stored.1 (source_fits v.frame W64 src (frame_of v here.sound));
      unset = sets.1;
      of = stored.2;
    })
