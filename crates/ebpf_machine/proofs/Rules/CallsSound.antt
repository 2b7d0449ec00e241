-- Calls that are not refused.
use Rattle.std.proofs.Common.{◌≡◌, ℕ, ◌+◌, ◌<◌, ◌≤◌, ℤ, pos, ◌≤ℤ◌, true, false, not, List, [], ◌∷◌, ◌++◌, length, Option, Some, None, Ok, refl, sym}
use Rattle.std.proofs.Common.{ap, ◌∙◌, subst, inl, arith, rules}
use Rattle.std.specs.Prelude.{All, Contains, ◌==◌, ◌&&◌, nat_lt, nat_le}
use Rattle.std.specs.Ordering.{int_eq}
use Rattle.std.proofs.lemmas.Bool.{and_parts, not-false, eqb-true, eq-eqb, lt-ltb, cond-false}
use Rattle.std.proofs.lemmas.Bool.Decides.{nat_tests}
use Rattle.std.proofs.lemmas.Int.{ints}
use Rattle.std.proofs.lemmas.List.{length_push, map-append}
use Rattle.std.proofs.lemmas.List.Elements.{All-map, All-contains, All-filter, All-push, Contains-push}
use Rattle.std.proofs.lemmas.List.Filters.{length-filter_both}
use Rattle.ebpf_insn.specs.declared.register.Reg.{Reg}
use Rattle.ebpf_insn.specs.declared.register.Reg.TheVariants.{R0, R1, R2}
use Rattle.ebpf_insn.specs.declared.insn.Insn.TheVariants as insn
use Rattle.ebpf_range.specs.declared.range.Range.{Range}
use Rattle.ebpf_range.specs.Interval.{constant}
use Rattle.ebpf_state.specs.declared.value.Abs.{Abs}
use Rattle.ebpf_state.specs.declared.value.Abs.TheVariants.{Unset, Num, Stk, Ctx, Ob, May}
use Rattle.ebpf_state.specs.Abstract.{is_unset, is_may}
use Rattle.ebpf_state.specs.Ascending.{IsAscending}
use Rattle.ebpf_state.specs.References.{holding, forgotten, kind_held}
use Rattle.ebpf_state.specs.StateView.{StateView}
use Rattle.ebpf_state.specs.States.{register_of}
use Rattle.ebpf_operation.specs.declared.helper.Helper.{Helper}
use Rattle.ebpf_operation.specs.declared.helper.Helper.TheVariants as helper
use Rattle.ebpf_verify.specs.Memory.{is_number}
use Rattle.ebpf_operation.specs.Helpers.{helper_of}
use Rattle.ebpf_verify.specs.Calls.{names_kind, is_whole_object, constant_in, is_that, fits_shelf, swap_refusal, call_refusal, with_result}
use Rattle.ebpf_verify.specs.Calls.{after_new, after_free, after_swap, after_call}
use Rattle.ebpf_verify.specs.Calls as calls
use Rattle.ebpf_verify.specs.Rules.{after_fall}
use Rattle.ebpf_verify.specs.Entry.{entry_of}
use Rattle.ebpf_machine.specs.declared.value.Value.{Value}
use Rattle.ebpf_machine.specs.declared.value.Value.TheVariants.{Number, Pointer}
use Rattle.ebpf_machine.specs.declared.value.Base.TheVariants.{Stack, Context, Object}
use Rattle.ebpf_machine.specs.Values.{Frame, TooManyObjects, read}
use Rattle.ebpf_machine.specs.declared.report.Reply.TheVariants as reply
use Rattle.ebpf_machine.specs.Effect.{Found, Ask, Free, Exchange, Goes, effect, with_value, without_arguments, with_zero, with_output}
use Rattle.ebpf_machine.specs.Effect.{effect_of_new, effect_of_free, effect_of_emit, effect_of_swap, effect_of_call}
use Rattle.ebpf_machine.specs.View.{ObjectView, RunView, environment_of_view, object_at, new_object, shelved_object, without_given, trapped}
use Rattle.ebpf_machine.specs.View.{replied, acted, CallResult, Null, Granted, Empty, Shelved}
use Rattle.ebpf_machine.specs.Concretization.{IsOf, AreOf, Arrives, calls_of}
use Rattle.ebpf_machine.specs.Sound.{FitsValue, AreSized, IsGoing, IsSound}
use Rattle.ebpf_machine.proofs.Rules.Operations.{none_first}
use Rattle.ebpf_verify.proofs.Bounded.{IsFull, forgotten-full}
use Rattle.ebpf_verify.proofs.Ascents.{ascending_push, ascending_kept}
use Rattle.ebpf_machine.proofs.Rules.Referred.{objects_few}
use Rattle.ebpf_machine.proofs.Rules.Entries.{fall_arrives}
use Rattle.ebpf_machine.proofs.Rules.Registers.{IsFrame-lost, IsFrame-result, AreOf-result}
use Rattle.ebpf_machine.proofs.Rules.Found.{held_found}
use Rattle.ebpf_machine.proofs.Rules.Holdings.{null_state, granted_state, without, calls_without, forgotten_state}
use Rattle.ebpf_machine.proofs.Rules.Next.{IsHere, IsNext, entered_here, IsThere, going_of, frame_of, there_sound, goes_on, goes_quietly}
use Rattle.ebpf_machine.proofs.Rules.Operands.{register_holds}

-- a call of a helper: its rule does not refuse it, and what it does and sends are the helper's
record IsCall (v : RunView) (number : ℤ) (s : StateView) (helper : Helper) : Type 0 where
  here : IsHere v (insn.Call number) s
  fine : call_refusal v.subject.decl v.subject.rows (Some helper) s ≡ None
  does : effect (insn.Call number) v.pc (environment_of_view v) v.frame ≡ effect_of_call (Some helper) (v.pc + 1) (environment_of_view v) v.frame
  sends : after_fall v.pc (insn.Call number) s ≡ after_call v.pc (Some helper) s

-- what an argument is known to be, and is
argument_holds : {v : RunView} {number : ℤ} {s : StateView} {helper : Helper} (r : Reg) → IsCall v number s helper
    → IsOf (calls_of v.objects) (register_of s r) (read v.frame r)
argument_holds {v} {number} {s} r h = register_holds v (insn.Call number) s r h.here

-- what a call sends comes to the slot after it
call_arrives : {v : RunView} {number : ℤ} {s after : StateView} {helper : Helper} {frame : Frame ℕ} {objects : List ObjectView}
    → IsCall v number s helper → after_call v.pc (Some helper) s ≡ Some after → AreOf after frame objects
    → Arrives (entry_of v.subject.program (v.pc + 1)) frame objects
call_arrives {v} {number} {s} h sends state =
    let here = h.here in
    fall_arrives (v.pc + 1) (entered_here here) (h.sends ∙ sends) refl
    (omega arith) state

zero_known : (known : List ℕ) → IsOf known (Num (constant 0)) (Some (Number 0))
zero_known known = ((omega arith, omega arith), omega arith)

-- ---- a kind, or a shelf

-- the number of a kind, which new or swap is given
record IsAsked (kinds : ℕ) (known : Abs) (x : Option (Value ℕ)) : Type 0 where
  kind : ℕ
  range : Range
  is : x ≡ Some (Number kind)
  known_is : known ≡ Num range
  low : range.lo ≡ kind
  few : kind < kinds

asked_kind : (held : List ℕ) (kinds : ℕ) (known : Abs) (x : Option (Value ℕ)) → is_unset known ≡ false
    → not (names_kind kinds known) ≡ false → IsOf held known x → IsAsked kinds known x
asked_kind held kinds (Num a) (Some (Number n)) set names h =
    let parts = and_parts (a.lo == a.hi) (nat_lt a.lo kinds) (not-false (names_kind kinds (Num a)) names) in
    let one : a.lo ≡ n = only a.lo a.hi n (eqb-true a.lo a.hi parts.0) h.0.0 h.0.1 in
    record { kind = n; range = a; is = refl; known_is = refl; low = one; few = few a.lo n kinds one parts.1 }
  where
    only : (low high n : ℕ) → low ≡ high → low ≤ n → n ≤ high → low ≡ n
    only low high n same le ge = omega (arith, same, le, ge)

    few : (low n kinds : ℕ) → low ≡ n → nat_lt low kinds ≡ true → n < kinds
    few low n kinds same lt = grind (arith, nat_tests)
asked_kind held kinds (Num a) None set names h = absurd h
asked_kind held kinds (Num a) (Some (Pointer base k)) set names h = absurd h
asked_kind held kinds Unset x set names h = absurd (cc)
asked_kind held kinds (Stk k) x set names h = absurd (cc)
asked_kind held kinds (Ctx a b) x set names h = absurd (cc)
asked_kind held kinds (Ob call a b) x set names h = absurd (cc)
asked_kind held kinds (May call) x set names h = absurd (cc)

-- ---- what a call is answered

-- none of the objects is of a call at the run's own slot
not_yet : (slot : ℕ) (objects : List ObjectView) → All (λ o. o.call < slot) objects → Contains (calls_of objects) slot → ⊥
not_yet slot objects behind among =
    let below = All-contains (λ (c : ℕ). c < slot) (calls_of objects) slot
    (All-map (λ (c : ℕ). c < slot) (λ (o : ObjectView). o.call) objects behind) among in
    omega (arith, below)

-- what is known of a run and of the objects that it has left, once it gave what it gives
record IsParted (v : RunView) (t : StateView) (left : List ObjectView) : Type 0 where
  full : IsFull v.pc t
  state : AreOf t v.frame left
  behind : All (λ o. o.call < v.pc) left
  ascending : IsAscending (calls_of left)

-- a call that may get an object of a kind, with what it sends
record IsAsking (v : RunView) (number : ℤ) (s : StateView) (helper : Helper) (t : StateView) (left : List ObjectView) (kind : ℕ) : Type 0 where
  call : IsCall v number s helper
  sends : after_call v.pc (Some helper) s ≡ Some (with_result (May v.pc) (holding v.pc kind t))
  left_is : IsParted v t left
  room : length left < v.subject.decl.held

-- the run is answered that it gets none
none_there : {v : RunView} {number : ℤ} {s : StateView} {helper : Helper} {t : StateView} {left : List ObjectView} {kind : ℕ}
    → IsAsking v number s helper t left kind → IsThere v (v.pc + 1) (with_zero v.frame) left
none_there {v} {t} {left} {kind} h =
    let frame = frame_of v h.call.here.sound in
    let l = h.left_is in
    let room = h.room in
    let state = AreOf-result (May v.pc) (Number 0) l.full.whole frame.whole (null_state v.pc kind t v.frame left l.behind l.state)
    (refl, not_yet v.pc left l.behind) in
    record {
      frame = IsFrame-result (Number 0) tt frame;
      state = call_arrives h.call h.sends state;
      behind = λ k d lt. let before = l.behind k d lt in omega (arith, before);
      ascending = l.ascending;
      declared = omega (arith, room);
    }

-- the run is answered that it gets an object
object_there : {v : RunView} {number : ℤ} {s : StateView} {helper : Helper} {t : StateView} {left : List ObjectView} (new : ObjectView)
    → new.call ≡ v.pc → IsAsking v number s helper t left new.kind
    → IsThere v (v.pc + 1) (with_value (without_arguments v.frame) R0 (Pointer (Object v.pc) (pos 0))) (left ++ new ∷ [])
object_there {v} {t} {left} new is h =
    let frame = frame_of v h.call.here.sound in
    let l = h.left_is in
    let objects = left ++ new ∷ [] in
    let result = Pointer (Object v.pc) (pos 0) in
    let room = h.room in
    let long = length_push left new in
    let names : calls_of objects ≡ calls_of left ++ v.pc ∷ [] =
    map-append (λ (o : ObjectView). o.call) left (new ∷ []) ∙ ap (λ (n : ℕ). calls_of left ++ n ∷ []) is in
    let among : Contains (calls_of objects) v.pc = subst (λ (ns : List ℕ). Contains ns v.pc) (sym names) (Contains-push (calls_of left) v.pc) in
    let state = AreOf-result (May v.pc) result l.full.whole frame.whole (granted_state v.pc t v.frame left new is l.full l.behind l.state)
    (refl, refl, among) in
    record {
      frame = IsFrame-result result zero_fits frame;
      state = call_arrives h.call h.sends state;
      behind = All-push (λ (o : ObjectView). o.call < v.pc + 1) left new (λ k d lt. let before = l.behind k d lt in omega (arith, before))
          (omega (arith, is));
      ascending = subst IsAscending (sym names)
          (ascending_push v.pc (calls_of left) (All-map (λ (c : ℕ). c < v.pc) (λ (o : ObjectView). o.call) left l.behind) l.ascending);
      declared = omega (arith, long, room);
    }
  where
    zero_fits : FitsValue (Pointer (Object v.pc) (pos 0))
    zero_fits = search (rules, ints)

not_full : (n m : ℕ) → n < m → nat_le m n ≡ false
not_full n m lt = grind (arith, nat_tests)

has_room : (objects held declared : ℕ) → objects ≤ held → nat_le declared held ≡ false → objects < declared
has_room objects held declared few none = grind (arith, nat_tests)

-- ---- new

asks : (v : RunView) (to kind : ℕ) (x : Option (Value ℕ)) → x ≡ Some (Number kind) → kind < length v.subject.rows
    → effect_of_new to (environment_of_view v) v.frame x ≡ Goes (Ask kind) to (without_arguments v.frame)
asks v to kind x is few = rw (is, lt-ltb kind (length v.subject.rows) few) refl

new_told : {v : RunView} {number : ℤ} {s : StateView} {kind : ℕ} → IsAsking v number s helper.New s v.objects kind
    → (result : CallResult) → IsSound (acted (Ask kind) result (v.pc + 1) (without_arguments v.frame) v)
new_told {v} {number} {s} {kind} h = by where
  null : IsSound (acted (Ask kind) Null (v.pc + 1) (without_arguments v.frame) v)
  null =
      there_sound v (insn.Call number) s (v.pc + 1) (with_zero v.frame) v.objects (v.replies ++ reply.Null ∷ []) v.taken h.call.here (inl refl) (none_there h)

  by : (result : CallResult) → IsSound (acted (Ask kind) result (v.pc + 1) (without_arguments v.frame) v)
  by Null = null
  by Empty = null
  by (Shelved bytes) = null
  by Granted =
      let after = without_arguments v.frame in
      let result = Pointer (Object v.pc) (pos 0) in
      let objects = v.objects ++ new_object v kind ∷ [] in
      let now = record (replied Granted result (v.pc + 1) after v) { objects = objects } in
      subst IsSound (sym (cond-false (nat_le v.subject.decl.held (length v.objects)) (trapped TooManyObjects v) now
      (not_full (length v.objects) v.subject.decl.held h.room)))
      (there_sound v (insn.Call number) s (v.pc + 1) (with_value after R0 result) objects (v.replies ++ reply.Granted ∷ []) v.taken h.call.here
      (inl refl) (object_there (new_object v kind) refl h))

new_next : {v : RunView} {number : ℤ} {s : StateView} → IsCall v number s helper.New → IsNext v
new_next {v} {number} {s} h =
    let i = insn.Call number in
    let here = h.here in
    let known = register_of s R1 in
    let unset = none_first (is_unset known) _ _ h.fine in
    let names = none_first (not (names_kind (length v.subject.rows) known)) _ _ unset.1 in
    let full = none_first (nat_le v.subject.decl.held (length s.held)) _ _ names.1 in
    let it = asked_kind (calls_of v.objects) (length v.subject.rows) known (read v.frame R1) unset.0 names.0 (argument_holds R1 h) in
    let was = going_of v here.sound here.going in
    let few = objects_few v.objects s.held was.ascending here.state.held in
    let room = has_room (length v.objects) (length s.held) v.subject.decl.held few full.0 in
    let left : IsParted v s v.objects = record { full = here.full; state = here.state; behind = was.behind; ascending = was.ascending } in
    let sends = ap (λ (a : Abs). after_new v.pc a s) it.known_is ∙ ap (λ (kind : ℕ). Some (with_result (May v.pc) (holding v.pc kind s))) it.low in
    let asking : IsAsking v number s helper.New s v.objects it.kind = record { call = h; sends = sends; left_is = left; room = room } in
    goes_on v i s (Ask it.kind) (v.pc + 1) (without_arguments v.frame) here (h.does ∙ asks v (v.pc + 1) it.kind (read v.frame R1) it.is it.few)
    (inl refl) (IsFrame-lost (frame_of v here.sound)).fit (it.few, room) (new_told asking)

-- ---- free

-- the object that free is given, at its first byte
record IsGiven (held : List ℕ) (known : Abs) (x : Option (Value ℕ)) : Type 0 where
  call : ℕ
  low : ℤ
  high : ℤ
  is : x ≡ Some (Pointer (Object call) (pos 0))
  known_is : known ≡ Ob call low high
  among : Contains held call

-- a pointer to an object at its first byte
at_first_byte : (held : List ℕ) (call : ℕ) (low high : ℤ) (x : Option (Value ℕ)) → int_eq low (pos 0) ≡ true
    → int_eq high (pos 0) ≡ true → IsOf held (Ob call low high) x → (x ≡ Some (Pointer (Object call) (pos 0))) × Contains held call
at_first_byte held call low high (Some (Pointer (Object at) w)) from to h =
    (ap (λ (n : ℕ). Some (Pointer (Object n) w)) h.0 ∙ ap (λ (z : ℤ). Some (Pointer (Object call) z)) (only low high w from to h.1 h.2), h.3) where
      only : (low high w : ℤ) → int_eq low (pos 0) ≡ true → int_eq high (pos 0) ≡ true → low ≤ℤ w → w ≤ℤ high → w ≡ pos 0
      only low high w a b l h = grind (arith, ints)
at_first_byte held call low high None from to h = absurd h
at_first_byte held call low high (Some (Number n)) from to h = absurd h
at_first_byte held call low high (Some (Pointer Stack w)) from to h = absurd h
at_first_byte held call low high (Some (Pointer Context w)) from to h = absurd h

given_object : (held : List ℕ) (known : Abs) (x : Option (Value ℕ)) → is_unset known ≡ false → not (is_whole_object known) ≡ false
    → IsOf held known x → IsGiven held known x
given_object held (Ob call low high) x set whole h =
    let parts = and_parts (int_eq low (pos 0)) (int_eq high (pos 0)) (not-false (is_whole_object (Ob call low high)) whole) in
    let first = at_first_byte held call low high x parts.0 parts.1 h in
    record { call = call; low = low; high = high; is = first.0; known_is = refl; among = first.1 }
given_object held Unset x set whole h = absurd (cc)
given_object held (Num a) x set whole h = absurd (cc)
given_object held (Stk k) x set whole h = absurd (cc)
given_object held (Ctx a b) x set whole h = absurd (cc)
given_object held (May call) x set whole h = absurd (cc)

gives_back : (v : RunView) (to call : ℕ) (x : Option (Value ℕ)) (found : Found) → x ≡ Some (Pointer (Object call) (pos 0))
    → object_at v.objects call ≡ Ok found
    → effect_of_free to (environment_of_view v) v.frame x ≡ Goes (Free call) to (with_zero v.frame)
gives_back v to call x found is there = rw (is, there) refl

-- what is known once an object is given away
given_away : {v : RunView} {s : StateView} (call : ℕ) → IsGoing v → IsFull v.pc s → AreOf s v.frame v.objects
    → IsParted v (forgotten call s) (without call v.objects)
given_away {v} {s} call was full state = record {
  full = forgotten-full v.pc call s full;
  state = forgotten_state v.pc call s v.frame v.objects full state;
  behind = All-filter (λ (o : ObjectView). not (o.call == call)) (λ (o : ObjectView). o.call < v.pc) v.objects was.behind;
  ascending = subst IsAscending (sym (calls_without call v.objects)) (ascending_kept (λ (c : ℕ). not (c == call)) (calls_of v.objects) was.ascending);
}

freed_there : {v : RunView} {number : ℤ} {s : StateView} (call : ℕ) → IsCall v number s helper.Free
    → after_call v.pc (Some helper.Free) s ≡ Some (with_result (Num (constant 0)) (forgotten call s))
    → IsThere v (v.pc + 1) (with_zero v.frame) (without call v.objects)
freed_there {v} call h sends =
    let here = h.here in
    let frame = frame_of v here.sound in
    let was = going_of v here.sound here.going in
    let objects = without call v.objects in
    let few = length-filter_both (λ (o : ObjectView). not (o.call == call)) (λ (o : ObjectView). not (not (o.call == call))) (λ o. refl) v.objects in
    let declared = was.declared in
    let parted = given_away call was here.full here.state in
    let state = AreOf-result (Num (constant 0)) (Number 0) parted.full.whole frame.whole parted.state (zero_known (calls_of objects)) in
    record {
      frame = IsFrame-result (Number 0) tt frame;
      state = call_arrives h sends state;
      behind = λ k d lt. let before = parted.behind k d lt in omega (arith, before);
      ascending = parted.ascending;
      declared = omega (arith, few, declared);
    }

free_next : {v : RunView} {number : ℤ} {s : StateView} → IsCall v number s helper.Free → IsNext v
free_next {v} {number} {s} h =
    let i = insn.Call number in
    let here = h.here in
    let known = register_of s R1 in
    let unset = none_first (is_unset known) _ _ h.fine in
    let may = none_first (is_may known) _ _ unset.1 in
    let whole = none_first (not (is_whole_object known)) _ _ may.1 in
    let it = given_object (calls_of v.objects) known (read v.frame R1) unset.0 whole.0 (argument_holds R1 h) in
    let found = held_found v s it.call here.sized here.state.held it.among in
    let sends = ap (λ (a : Abs). after_free a s) it.known_is in
    let there = freed_there it.call h sends in
    goes_on v i s (Free it.call) (v.pc + 1) (with_zero v.frame) here
    (h.does ∙ gives_back v (v.pc + 1) it.call (read v.frame R1) found.found it.is found.is) (inl refl) there.frame.fit tt
    (λ reply. there_sound v i s (v.pc + 1) (with_zero v.frame) (without it.call v.objects) v.replies v.taken here (inl refl) there)

-- ---- emit

emitted : (held : List ℕ) (known : Abs) (x : Option (Value ℕ)) → is_unset known ≡ false → not (is_number known) ≡ false
    → IsOf held known x → (n : ℕ) × (x ≡ Some (Number n))
emitted held (Num a) (Some (Number n)) set number h = (n, refl)
emitted held (Num a) None set number h = absurd h
emitted held (Num a) (Some (Pointer base k)) set number h = absurd h
emitted held Unset x set number h = absurd (cc)
emitted held (Stk k) x set number h = absurd (cc)
emitted held (Ctx a b) x set number h = absurd (cc)
emitted held (Ob call a b) x set number h = absurd (cc)
emitted held (May call) x set number h = absurd (cc)

emit_next : {v : RunView} {number : ℤ} {s : StateView} → IsCall v number s helper.Emit → IsNext v
emit_next {v} {number} {s} h =
    let i = insn.Call number in
    let here = h.here in
    let known = register_of s R1 in
    let unset = none_first (is_unset known) _ _ h.fine in
    let argument = none_first (not (is_number known)) _ _ unset.1 in
    let n = emitted (calls_of v.objects) known (read v.frame R1) unset.0 argument.0 (argument_holds R1 h) in
    let frame = frame_of v here.sound in
    let after = with_output n.0 (with_zero v.frame) in
    let zero = IsFrame-result (Number 0) tt frame in
    let state = AreOf-result (Num (constant 0)) (Number 0) here.full.whole frame.whole here.state (zero_known (calls_of v.objects)) in
    goes_quietly v i s (v.pc + 1) after here (h.does ∙ ap (effect_of_emit (v.pc + 1) v.frame) n.1) (inl refl)
    (record { whole = zero.whole; deep = zero.deep; pointer = zero.pointer; fit = record { registers = zero.fit.registers; stack = zero.fit.stack } })
    (call_arrives h refl (record { each = state.each; words = state.words; held = state.held }))

-- ---- swap

-- what a call of swap gives to a shelf: nothing, or an object of the shelf's kind
record GivesTo (v : RunView) (s : StateView) (shelf : ℕ) (known : Abs) (x : Option (Value ℕ)) : Type 0 where
  given : Option ℕ
  does : (to : ℕ) (y : Option (Value ℕ)) → y ≡ Some (Number shelf) → shelf < length v.subject.rows
      → effect_of_swap to (environment_of_view v) v.frame y x ≡ Goes (Exchange shelf given) to (without_arguments v.frame)
  left_is : IsParted v (calls.without_given known s) (without_given given v.objects)

gives_nothing : (v : RunView) (to shelf : ℕ) (x y : Option (Value ℕ)) → x ≡ Some (Number 0) → y ≡ Some (Number shelf)
    → shelf < length v.subject.rows
    → effect_of_swap to (environment_of_view v) v.frame y x ≡ Goes (Exchange shelf None) to (without_arguments v.frame)
gives_nothing v to shelf x y is names few = rw (is, names, lt-ltb shelf (length v.subject.rows) few) refl

gives_object : (v : RunView) (to shelf call : ℕ) (found : Found) (x y : Option (Value ℕ)) → x ≡ Some (Pointer (Object call) (pos 0))
    → object_at v.objects call ≡ Ok found → found.kind ≡ shelf → y ≡ Some (Number shelf) → shelf < length v.subject.rows
    → effect_of_swap to (environment_of_view v) v.frame y x ≡ Goes (Exchange shelf (Some call)) to (without_arguments v.frame)
gives_object v to shelf call found x y is there kind names few =
    rw (is, names, there, lt-ltb shelf (length v.subject.rows) few, eq-eqb found.kind shelf kind) refl

-- an object that is of the kind of a shelf, as what is known says
of_that_kind : (shelf kind : ℕ) (known : Option ℕ) → known ≡ Some kind → is_that shelf known ≡ true → kind ≡ shelf
of_that_kind shelf kind known is fits = eqb-true kind shelf (sym (ap (is_that shelf) is) ∙ fits)

gives_to : {v : RunView} {s : StateView} (shelf : ℕ) (known : Abs) (x : Option (Value ℕ)) → IsGoing v → AreSized v → IsFull v.pc s
    → AreOf s v.frame v.objects → is_unset known ≡ false → not (fits_shelf shelf s known) ≡ false
    → IsOf (calls_of v.objects) known x → GivesTo v s shelf known x
gives_to {v} {s} shelf (Num a) (Some (Number n)) was sized full state set fits h =
    let parts = and_parts (a.lo == 0) (a.hi == 0) (not-false (fits_shelf shelf s (Num a)) fits) in
    let zero : n ≡ 0 = only a.lo a.hi n (eqb-true a.hi 0 parts.1) h.0.1 in
    record {
      given = None;
      does = λ to y names few. gives_nothing v to shelf (Some (Number n)) y (ap (λ (m : ℕ). Some (Number m)) zero) names few;
      left_is = record { full = full; state = state; behind = was.behind; ascending = was.ascending };
    }
  where
    only : (low high n : ℕ) → high ≡ 0 → n ≤ high → n ≡ 0
    only low high n e le = omega (arith, e, le)
gives_to {v} {s} shelf (Ob call low high) x was sized full state set fits h =
    let parts =
    and_parts (int_eq low (pos 0)) (int_eq high (pos 0) && is_that shelf (kind_held call s)) (not-false (fits_shelf shelf s (Ob call low high)) fits) in
    let more = and_parts (int_eq high (pos 0)) (is_that shelf (kind_held call s)) parts.1 in
    let it = at_first_byte (calls_of v.objects) call low high x parts.0 more.0 h in
    let found = held_found v s call sized state.held it.1 in
    record {
      given = Some call;
      does = λ to y names few. gives_object v to shelf call found.found x y it.0 found.is
          (of_that_kind shelf found.found.kind (kind_held call s) found.kind_is more.1) names few;
      left_is = given_away call was full state;
    }
gives_to shelf (Num a) None was sized full state set fits h = absurd h
gives_to shelf (Num a) (Some (Pointer base k)) was sized full state set fits h = absurd h
gives_to shelf Unset x was sized full state set fits h = absurd (cc)
gives_to shelf (Stk k) x was sized full state set fits h = absurd (cc)
gives_to shelf (Ctx a b) x was sized full state set fits h = absurd (cc)
gives_to shelf (May call) x was sized full state set fits h = absurd (cc)

swap_told : {v : RunView} {number : ℤ} {s t : StateView} {shelf : ℕ} (given : Option ℕ)
    → IsAsking v number s helper.Swap t (without_given given v.objects) shelf → (result : CallResult)
    → IsSound (acted (Exchange shelf given) result (v.pc + 1) (without_arguments v.frame) v)
swap_told {v} {number} {s} {shelf} given h = by where
  left : List ObjectView
  left = without_given given v.objects

  empty : IsSound (acted (Exchange shelf given) Empty (v.pc + 1) (without_arguments v.frame) v)
  empty = there_sound v (insn.Call number) s (v.pc + 1) (with_zero v.frame) left (v.replies ++ reply.Empty ∷ []) v.taken h.call.here (inl refl) (none_there h)

  by : (result : CallResult) → IsSound (acted (Exchange shelf given) result (v.pc + 1) (without_arguments v.frame) v)
  by Empty = empty
  by Null = empty
  by Granted = empty
  by (Shelved bytes) =
      let after = without_arguments v.frame in
      let result = Pointer (Object v.pc) (pos 0) in
      let objects = left ++ shelved_object v shelf bytes ∷ [] in
      let now = record (replied (Shelved bytes) result (v.pc + 1) after v) { objects = objects; taken = v.taken ++ bytes } in
      subst IsSound (sym (cond-false (nat_le v.subject.decl.held (length left)) (trapped TooManyObjects v) now
      (not_full (length left) v.subject.decl.held h.room)))
      (there_sound v (insn.Call number) s (v.pc + 1) (with_value after R0 result) objects (v.replies ++ reply.Shelf ∷ []) (v.taken ++ bytes) h.call.here
      (inl refl) (object_there (shelved_object v shelf bytes) refl h))

swap_next : {v : RunView} {number : ℤ} {s : StateView} → IsCall v number s helper.Swap → IsNext v
swap_next {v} {number} {s} h =
    let here = h.here in
    let shelf = register_of s R1 in
    let given = register_of s R2 in
    let unset = none_first (is_unset shelf) _ _ h.fine in
    let unset_given = none_first (is_unset given) _ _ unset.1 in
    let may = none_first (is_may given) _ _ unset_given.1 in
    let names = none_first (not (names_kind (length v.subject.rows) shelf)) _ _ may.1 in
    let fits = none_first (not (fits_shelf (constant_in shelf) s given)) _ _ names.1 in
    let full = none_first (nat_le v.subject.decl.held (length (calls.without_given given s).held)) _ _ fits.1 in
    let it = asked_kind (calls_of v.objects) (length v.subject.rows) shelf (read v.frame R1) unset.0 names.0 (argument_holds R1 h) in
    let low : constant_in shelf ≡ it.kind = ap constant_in it.known_is ∙ it.low in
    let was = going_of v here.sound here.going in
    let gives = gives_to it.kind given (read v.frame R2) was here.sized here.full here.state unset_given.0
    (sym (ap (λ (n : ℕ). not (fits_shelf n s given)) low) ∙ fits.0) (argument_holds R2 h) in
    let left = without_given gives.given v.objects in
    let few = objects_few left (calls.without_given given s).held gives.left_is.ascending gives.left_is.state.held in
    let room = has_room (length left) (length (calls.without_given given s).held) v.subject.decl.held few full.0 in
    let sends = ap (λ (a : Abs). after_swap v.pc a given s) it.known_is
    ∙ ap (λ (kind : ℕ). Some (with_result (May v.pc) (holding v.pc kind (calls.without_given given s)))) it.low in
    goes_on v (insn.Call number) s (Exchange it.kind gives.given) (v.pc + 1) (without_arguments v.frame) here
    (h.does ∙ gives.does (v.pc + 1) (read v.frame R1) it.is it.few) (inl refl) (IsFrame-lost (frame_of v here.sound)).fit (it.few, room)
    (swap_told gives.given (record { call = h; sends = sends; left_is = gives.left_is; room = room }))

-- ---- the helper of a number

pub call_next : {v : RunView} (number : ℤ) {s : StateView} → IsHere v (insn.Call number) s → IsNext v
call_next {v} number {s} here = by (helper_of number) refl where
  refused : helper_of number ≡ None → ⊥
  refused is = let fine = sym (ap (λ (o : Option Helper). call_refusal v.subject.decl v.subject.rows o s) is) ∙ here.fine in cc

  called : (helper : Helper) → helper_of number ≡ Some helper → IsCall v number s helper
  called helper is = record {
    here = here;
    fine = sym (ap (λ (o : Option Helper). call_refusal v.subject.decl v.subject.rows o s) is) ∙ here.fine;
    does = ap (λ (o : Option Helper). effect_of_call o (v.pc + 1) (environment_of_view v) v.frame) is;
    sends = ap (λ (o : Option Helper). after_call v.pc o s) is;
  }

  by : (helper : Option Helper) → helper_of number ≡ helper → IsNext v
  by None is = absurd (refused is)
  by (Some helper.New) is = new_next (called helper.New is)
  by (Some helper.Free) is = free_next (called helper.Free is)
  by (Some helper.Emit) is = emit_next (called helper.Emit is)
  by (Some helper.Swap) is = swap_next (called helper.Swap is)
