-- What is known on the edge that a branch takes speaks of the run: of a comparison of two numbers, and of a null test.
use Rattle.std.proofs.Common.{◌≡◌, ◌≢◌, ℕ, zero, pos, ◌<◌, ◌≤◌, ◌^◌, Bool, true, false, cond, List, length, get_or, set, Option, Some, None, Ok}
use Rattle.std.proofs.Common.{refl, sym, ap, ◌∙◌, subst, arith, inl, inr, ◌⊎◌, length-set, ◌+◌, ◌*◌}
use Rattle.std.specs.Prelude.{Contains, ◌==◌, ◌||◌, map}
use Rattle.std.proofs.lemmas.Bool.Decides.{nat_tests}
use Rattle.std.proofs.lemmas.Bool.{cond_both, cases_lt}
use Rattle.std.proofs.lemmas.Int.{ints}
use Rattle.std.proofs.lemmas.List.{get_or-map, get_or-set_same, get_or-set_other}
use Rattle.ebpf_insn.specs.declared.register.Reg.{Reg}
use Rattle.ebpf_insn.specs.declared.insn.Cond.{Cond}
use Rattle.ebpf_insn.specs.declared.insn.Cond.TheVariants as on
use Rattle.ebpf_insn.specs.declared.insn.Source.{Source}
use Rattle.ebpf_insn.specs.declared.insn.Source.TheVariants.{Register, Imm}
use Rattle.ebpf_insn.specs.declared.insn.Width.{Width}
use Rattle.ebpf_insn.specs.declared.insn.Width.TheVariants.{W64}
use Rattle.ebpf_insn.specs.Registers.{number_of}
use Rattle.ebpf_insn.specs.Arithmetic.{is_met}
use Rattle.ebpf_range.specs.declared.range.Range.{Range}
use Rattle.ebpf_range.specs.Interval.{IsWithin}
use Rattle.ebpf_range.specs.Refinements.{refinement}
use Rattle.ebpf_range.proofs.RefinementLemmas.{Keeps, refinement-keeps}
use Rattle.ebpf_state.specs.declared.value.Abs.{Abs}
use Rattle.ebpf_state.specs.declared.value.Abs.TheVariants.{Unset, Num, Stk, Ctx, Ob, May}
use Rattle.ebpf_state.specs.Abstract.{is_unset, is_pointer, is_may}
use Rattle.ebpf_state.specs.StateView.{StateView}
use Rattle.ebpf_state.specs.States.{with_register}
use Rattle.ebpf_state.specs.References.{answer_known, settled_value, settled_word, settled}
use Rattle.ebpf_verify.specs.Branches.{compares_with_null, answering_call, null_test, comparison_refusal, refined_values, with_operand, is_null_where}
use Rattle.ebpf_machine.specs.declared.value.Value.{Value}
use Rattle.ebpf_machine.specs.declared.value.Value.TheVariants.{Number, Pointer}
use Rattle.ebpf_machine.specs.declared.value.Base.TheVariants.{Stack, Context, Object}
use Rattle.ebpf_machine.specs.Effect.{is_taken}
use Rattle.ebpf_state.specs.declared.word.Word.{Word}
use Rattle.ebpf_state.specs.declared.word.Word.TheVariants.{Bytes}
use Rattle.ebpf_state.specs.Stack.{word_of}
use Rattle.ebpf_machine.specs.Values.{Frame}
use Rattle.ebpf_machine.specs.Cells.{cell_at}
use Rattle.ebpf_machine.specs.View.{ObjectView}
use Rattle.ebpf_machine.specs.Concretization.{IsOf, IsOfCells, AreOf, AreReferred, calls_of}
use Rattle.ebpf_verify.proofs.Bounded.{IsBoundedValue, IsFull, number_of-lt}
use Rattle.ebpf_machine.proofs.Lists.Mapped.{Contains-mapped}
use Rattle.ebpf_machine.proofs.Rules.Referred.{kinds_without, tested_kinds}
use Rattle.ebpf_machine.proofs.Rules.Words.{settled_cells}
use Rattle.ebpf_machine.proofs.Rules.Operations.{AreOperands, IsNumberOf, none_first, neither, number_value}

-- ---- two numbers

-- what both operands of a branch are known to be, where it goes one way
pub record IsRefined (calls : List ℕ) (condition : Cond) (width : Width) (left right : Abs) (src : Source) (x y : Option (Value ℕ)) : Type 0 where
  pub taken : Bool
  pub goes : is_taken width condition src x y ≡ Ok taken
  pub known : Range × Range
  pub refined : refined_values condition width left right taken ≡ Some known
  pub of_left : IsOf calls (Num known.0) x
  pub of_right : IsOf calls (Num known.1) y

kept_pair : (x y : ℕ) (o : Option (Range × Range)) → Keeps x y o → (p : Range × Range) × (o ≡ Some p) × IsWithin x p.0 × IsWithin y p.1
kept_pair x y None h = absurd h
kept_pair x y (Some p) h = (p, refl, h.0, h.1)

refined_numbers : (calls : List ℕ) (condition : Cond) (width : Width) {left right : Abs} (src : Source) {x y : Option (Value ℕ)}
    → (v : IsNumberOf left x) → (w : IsNumberOf right y) → v.range.hi < 2 ^ 64 → w.range.hi < 2 ^ 64
    → IsRefined calls condition width left right src x y
refined_numbers calls condition width src v w below_v below_w =
    let taken = is_met condition width v.n w.n in
    let pair = refinement condition width v.range w.range taken in
    let keeps = refinement-keeps condition width v.range w.range taken v.n w.n below_v below_w v.within w.within refl in
    let kept = kept_pair v.n w.n pair keeps in
    rw (v.holds, v.is, w.holds, w.is) (record {
      taken = taken;
      goes = refl;
      known = kept.0;
      refined = kept.1;
      of_left = (kept.2, v.below);
      of_right = (kept.3, w.below);
    })

-- a comparison that is not refused is of two numbers
pub comparison_sound : {calls : List ℕ} {slot : ℕ} (condition : Cond) (width : Width) {left right : Abs} (src : Source) {x y : Option (Value ℕ)}
    → comparison_refusal left right ≡ None → AreOperands calls slot left right x y → IsRefined calls condition width left right src x y
comparison_sound {calls} {slot} condition width {left} {right} src {x} {y} fine are =
    let a = none_first (is_unset left || is_unset right) _ _ fine in
    let b = none_first (is_pointer left || is_may left || is_pointer right || is_may right) _ _ a.1 in
    let set = neither (is_unset left) (is_unset right) a.0 in
    let rest = neither (is_pointer left || is_may left || is_pointer right) (is_may right) b.0 in
    let more = neither (is_pointer left || is_may left) (is_pointer right) rest.0 in
    let first = neither (is_pointer left) (is_may left) more.0 in
    let v = number_value calls left x set.0 first.1 first.0 are.left_of in
    let w = number_value calls right y set.1 rest.1 more.1 are.right_of in
    refined_numbers calls condition width src v w (subst (IsBoundedValue slot) v.is are.left_bound) (subst (IsBoundedValue slot) w.is are.right_bound)

-- a register of which something else is known, which speaks of its value too
with_known : {s : StateView} {frame : Frame ℕ} {objects : List ObjectView} (r : Reg) (a : Abs) → length s.registers ≡ 11
    → AreOf s frame objects → IsOf (calls_of objects) a (get_or frame.registers (number_of r) None)
    → AreOf (with_register s r a) frame objects
with_known {s} {frame} {objects} r a whole h e = record { each = λ k lt. known_at k lt (cases_lt k (number_of r)); words = h.words; held = h.held } where
  other_at : (k : ℕ) → k < 11 → k ≢ number_of r → IsOf (calls_of objects) (get_or (set s.registers (number_of r) a) k Unset) (get_or frame.registers k None)
  other_at k lt other = rw (get_or-set_other s.registers (number_of r) k a Unset other) (h.each k lt)

  known_at : (k : ℕ) → k < 11 → (k < number_of r) ⊎ (number_of r ≤ k)
      → IsOf (calls_of objects) (get_or (set s.registers (number_of r) a) k Unset) (get_or frame.registers k None)
  known_at k lt (inl below) = other_at k lt (λ same. omega arith)
  known_at k lt (inr above) = elim (cases_lt (number_of r) k) [
    | inl more ↦ other_at k lt (λ same. omega arith)
    | inr not_more ↦
        let room = number_of-lt r in
        let same : k ≡ number_of r = omega arith in
        rw (same, get_or-set_same s.registers (number_of r) a Unset (omega (arith, whole, room))) e
  ]

-- what is known of both operands is written
pub refined_state : {s : StateView} {frame : Frame ℕ} {objects : List ObjectView} (left : Reg) (right : Source) (known : Range × Range) (y : Option (Value ℕ))
    → length s.registers ≡ 11 → AreOf s frame objects
    → IsOf (calls_of objects) (Num known.0) (get_or frame.registers (number_of left) None)
    → ((r : Reg) → right ≡ Register r → IsOf (calls_of objects) (Num known.1) (get_or frame.registers (number_of r) None))
    → AreOf (with_operand (with_register s left (Num known.0)) right known.1) frame objects
refined_state left (Imm z) known y whole h of_left of_right = with_known left (Num known.0) whole h of_left
refined_state {s} left (Register r) known y whole h of_left of_right =
    with_known r (Num known.1) (length-set s.registers (number_of left) (Num known.0) ∙ whole)
    (with_known left (Num known.0) whole h of_left) (of_right r refl)

-- ---- null tests

-- whether the answer is null decides what the run holds
pub record IsAnswered (calls : List ℕ) (call : ℕ) (null : Bool) : Type 0 where
  pub none : null ≡ true → Contains calls call → ⊥
  pub held : null ≡ false → Contains calls call

is_true : {A : Type 0} (t : Bool) (o : Option A) (a : A) → cond t o None ≡ Some a → (t ≡ true) × (o ≡ Some a)
is_true true o a e = (refl, e)
is_true false o a e = absurd (cc)

may_of : (a : Abs) (call : ℕ) → answering_call a ≡ Some call → a ≡ May call
may_of (May r) call e = let same : r ≡ call = cc in ap May same
may_of Unset call e = absurd (cc)
may_of (Num a) call e = absurd (cc)
may_of (Stk k) call e = absurd (cc)
may_of (Ctx a b) call e = absurd (cc)
may_of (Ob r a b) call e = absurd (cc)

equality_of : (width : Width) (condition : Cond) (src : Source) → compares_with_null width condition src ≡ true
    → (width ≡ W64) × ((condition ≡ on.Eq) ⊎ (condition ≡ on.Ne)) × (src ≡ Imm (pos 0))
equality_of W64 on.Eq (Imm (pos zero)) e = (refl, inl refl, refl)
equality_of W64 on.Ne (Imm (pos zero)) e = (refl, inr refl, refl)
equality_of _ _ _ e = absurd (cc)

-- what a null test finds, and whether it is taken
pub record IsTested (calls : List ℕ) (call : ℕ) (condition : Cond) (width : Width) (src : Source) (x y : Option (Value ℕ)) : Type 0 where
  pub taken : Bool
  pub goes : is_taken width condition src x y ≡ Ok taken
  pub answered : IsAnswered calls call (is_null_where condition taken)

no_object : (calls : List ℕ) (call : ℕ) → (Contains calls call → ⊥) → IsAnswered calls call true
no_object calls call apart = record { none = λ e. apart; held = λ e. absurd (cc) }

an_object : (calls : List ℕ) (call : ℕ) → Contains calls call → IsAnswered calls call false
an_object calls call among = record { none = λ e there. absurd (cc); held = λ e. among }

tested_by : (calls : List ℕ) (call : ℕ) (condition : Cond) (x : Option (Value ℕ)) → (condition ≡ on.Eq) ⊎ (condition ≡ on.Ne)
    → IsOf calls (May call) x → IsTested calls call condition W64 (Imm (pos 0)) x (Some (Number 0))
tested_by calls call condition None which h = absurd h
tested_by calls call condition (Some (Number n)) (inl eq) h = rw (eq, h.0) (record { taken = true; goes = refl; answered = no_object calls call h.1 })
tested_by calls call condition (Some (Number n)) (inr ne) h = rw (ne, h.0) (record { taken = false; goes = refl; answered = no_object calls call h.1 })
tested_by calls call condition (Some (Pointer (Object at) w)) (inl eq) h = rw eq (record { taken = false; goes = refl; answered = an_object calls call h.2 })
tested_by calls call condition (Some (Pointer (Object at) w)) (inr ne) h = rw ne (record { taken = true; goes = refl; answered = an_object calls call h.2 })
tested_by calls call condition (Some (Pointer Stack w)) which h = absurd h
tested_by calls call condition (Some (Pointer Context w)) which h = absurd h

pub null_test_sound : (calls : List ℕ) (call : ℕ) (condition : Cond) (width : Width) (left : Abs) (src : Source) (x y : Option (Value ℕ))
    → null_test width condition left src ≡ Some call → (src ≡ Imm (pos 0) → width ≡ W64 → y ≡ Some (Number 0)) → IsOf calls left x
    → IsTested calls call condition width src x y
null_test_sound calls call condition width left src x y e of_zero h =
    let is = is_true (compares_with_null width condition src) (answering_call left) call e in
    let which = equality_of width condition src is.0 in
    rw (which.0, which.2, of_zero which.2 which.0) (tested_by calls call condition x which.1 (subst (λ (a : Abs). IsOf calls a x) (may_of left call is.1) h))

same_number : (a b : ℕ) → (a == b) ≡ true → a ≡ b
same_number a b e = grind (arith, nat_tests)

-- what is known of a value, once the answer is known
may_settled : {calls : List ℕ} {call : ℕ} (r : ℕ) (null : Bool) (v : Option (Value ℕ)) → r ≡ call → IsAnswered calls call null
    → IsOf calls (May r) v → IsOf calls (answer_known call null) v
may_settled r null None same answer h = absurd h
may_settled r null (Some (Pointer Stack w)) same answer h = absurd h
may_settled r null (Some (Pointer Context w)) same answer h = absurd h
may_settled r true (Some (Number n)) same answer h = ((omega arith, omega (arith, h.0)), omega (arith, h.0))
may_settled {calls} r false (Some (Number n)) same answer h = absurd (h.1 (subst (Contains calls) (sym same) (answer.held refl)))
may_settled {calls} r true (Some (Pointer (Object at) w)) same answer h = absurd (answer.none refl (subst (Contains calls) same h.2))
may_settled r false (Some (Pointer (Object at) w)) same answer h = (h.0 ∙ same, omega (arith, ints, h.1), omega (arith, ints, h.1), answer.held refl)

settled_sound : {calls : List ℕ} {call : ℕ} {null : Bool} (a : Abs) (v : Option (Value ℕ)) → IsAnswered calls call null
    → IsOf calls a v → IsOf calls (settled_value call null a) v
settled_sound {calls} {call} {null} (May r) v answer h =
    cond_both (r == call) (answer_known call null) (May r) (λ (a : Abs). IsOf calls a v) (λ e. may_settled r null v (same_number r call e) answer h) (λ e. h)
settled_sound Unset v answer h = tt
settled_sound (Num a) v answer h = h
settled_sound (Stk k) v answer h = h
settled_sound (Ctx a b) v answer h = h
settled_sound (Ob r a b) v answer h = h

-- the references that are left, or tested, are those of the objects
settled_references : {call : ℕ} (null : Bool) (s : StateView) (objects : List ObjectView) → IsAnswered (calls_of objects) call null
    → AreReferred s objects → AreReferred (settled call null s) objects
settled_references {call} true s objects answer h o there =
    let among = Contains-mapped (λ (p : ObjectView). p.call) objects o there in
    kinds_without o.call call s.held (λ same. answer.none refl (subst (Contains (calls_of objects)) same among)) ∙ h o there
settled_references {call} false s objects answer h o there = tested_kinds o.call call s.held ∙ h o there

word_settled : (call : ℕ) (null : Bool) (words : List Word) (w : ℕ) → w < length words
    → word_of (map (settled_word call null) words) w ≡ settled_word call null (word_of words w)
word_settled call null words w lt = get_or-map (settled_word call null) words w (Bytes 0) (Bytes 0) lt

pub settled_state : (slot : ℕ) {s : StateView} {frame : Frame ℕ} {objects : List ObjectView} {call : ℕ} {null : Bool}
    → IsFull slot s → IsAnswered (calls_of objects) call null → AreOf s frame objects → AreOf (settled call null s) frame objects
settled_state slot {s} {frame} {objects} {call} {null} full answer h = record {
  each = λ k lt. subst (λ (a : Abs). IsOf (calls_of objects) a (get_or frame.registers k None))
      (sym (get_or-map (settled_value call null) s.registers k Unset Unset (omega (arith, full.whole, lt))))
      (settled_sound (get_or s.registers k Unset) (get_or frame.registers k None) answer (h.each k lt));
  words = λ w lt. subst (λ (x : Word). IsOfCells (calls_of objects) x (λ j. cell_at frame.stack (8 * w + j)))
      (sym (word_settled call null s.words w (omega (arith, full.deep, lt))))
      (settled_cells (calls_of objects) call null (word_of s.words w) (λ j. cell_at frame.stack (8 * w + j)) (λ a v. settled_sound a v answer)
      (h.words w lt));
  held = settled_references null s objects answer h.held;
}
