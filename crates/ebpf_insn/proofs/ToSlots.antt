-- The slots of an instruction have no fault, and the instruction is read from them again.
use Rattle.std.proofs.Common.{◌≡◌, ℕ, ◌+◌, ◌*◌, ◌/◌, ◌%◌, ◌<◌, ◌^◌, Bool, true, false, eqb, ◌||◌}
use Rattle.std.proofs.Common.{Option, Some, None, ℤ, w16, w32, FitsSigned, refl, sym, ap, ◌∙◌, inl, inr, arith}
use Rattle.std.proofs.lemmas.Bool.{ne_eqb, cases_eq}
use Rattle.std.proofs.lemmas.Bool.Decides.{nat_tests}
use Rattle.std.proofs.lemmas.Int.{ints, to_z-of_z}
use Rattle.std.proofs.lemmas.Option.{same_Some}
use Rattle.std.specs.Int.{cast_signed, cast_unsigned}
use Rattle.ebpf_insn.specs.declared.slot.Slot.{Slot}
use Rattle.ebpf_insn.specs.declared.register.Reg.{Reg}
use Rattle.ebpf_insn.specs.declared.register.Reg.TheVariants.{R0}
use Rattle.ebpf_insn.specs.declared.insn.Insn.{Insn}
use Rattle.ebpf_insn.specs.declared.insn.Insn.TheVariants as insn
use Rattle.ebpf_insn.specs.declared.insn.Source.{Source}
use Rattle.ebpf_insn.specs.declared.insn.Source.TheVariants as source
use Rattle.ebpf_insn.specs.declared.insn.AluOp.{AluOp}
use Rattle.ebpf_insn.specs.declared.insn.AluOp.TheVariants as op
use Rattle.ebpf_insn.specs.declared.insn.Cond.{Cond}
use Rattle.ebpf_insn.specs.declared.insn.Size.{Size}
use Rattle.ebpf_insn.specs.declared.insn.Width.{Width}
use Rattle.ebpf_insn.specs.declared.insn.Width.TheVariants.{W32, W64}
use Rattle.ebpf_insn.specs.declared.opcode.Form.{Form}
use Rattle.ebpf_insn.specs.declared.opcode.Form.TheVariants as form
use Rattle.ebpf_insn.specs.declared.opcode.Operand.{Operand}
use Rattle.ebpf_insn.specs.declared.opcode.Operand.TheVariants.{Immediate, Register}
use Rattle.ebpf_insn.specs.Registers.{number_of, register_of}
use Rattle.ebpf_insn.specs.Opcodes.{opcode_of, form_of}
use Rattle.ebpf_insn.specs.Fields.{leaves_unused_zero, has_left_out_source, has_defined_fields, is_move_of, is_swap_of, lacks_second, has_bad_second}
use Rattle.ebpf_insn.specs.Encoding.{unsigned_of, form_of_insn, operand_of, source_register, source_imm}
use Rattle.ebpf_insn.specs.Encoding.{sign_offset, slot_with, second_half, first_slot, IsSource, IsDefined}
use Rattle.ebpf_insn.specs.Decoding.{slot_fault}
use Rattle.ebpf_insn.specs.Decoded.{alu_at, insn_at_slot}
use Rattle.ebpf_insn.proofs.Registers.{register_of-number_of, is_register_of, number_below}
use Rattle.ebpf_insn.proofs.SlotBytes.{FitsSlot}
use Rattle.ebpf_insn.proofs.Opcodes.{IsForm, alu_again, form_again, opcode_is, opcode_below}

-- ---- reading a slot

abbrev insn_of_parts : Option Form → Slot → Option Slot → Option Reg → Option Reg → Option Insn
insn_of_parts (Some f) s second (Some dst) (Some src) = Some (insn_at_slot f s second dst src)
insn_of_parts _ s second _ _ = None

-- the instruction of a slot and the one after it
pub found_in : Slot → Option Slot → Option Insn
found_in s second = insn_of_parts (form_of s.opcode) s second (register_of s.dst) (register_of s.src)

-- the instruction is read from the slot, which has no fault
pub record IsReadFrom (i : Insn) (s : Slot) (second : Option Slot) : Type 0 where
  pub fine : slot_fault s second ≡ None
  pub found : found_in s second ≡ Some i

-- each test of a slot, once its form and its registers are known
record Passes (f : Form) (s : Slot) (second : Option Slot) : Type 0 where
  pub source : has_left_out_source f s.src ≡ false
  pub unused : leaves_unused_zero f s ≡ true
  pub whole : lacks_second f second ≡ false
  pub blank : has_bad_second f second ≡ false
  pub defined : has_defined_fields f s ≡ true

is_read : (i : Insn) (s : Slot) (second : Option Slot) (f : Form) (dst src : Reg) → form_of s.opcode ≡ Some f → register_of s.dst ≡ Some dst
    → register_of s.src ≡ Some src → Passes f s second → insn_at_slot f s second dst src ≡ i → IsReadFrom i s second
unfolding found_in
is_read i s second f dst src opcode to from passes made = record {
  fine = rw (opcode, passes.source, is_register_of s.dst dst to, is_register_of s.src src from, passes.unused, passes.whole, passes.blank, passes.defined) refl;
  found = rw (opcode, to, from) (ap Some made);
}

-- ---- arithmetic

abbrev register_slot : Width → AluOp → Reg → Reg → Slot
register_slot width o dst src = slot_with (form.Alu width o Register) (number_of dst) (number_of src) (sign_offset o) 0

abbrev immediate_slot : Width → AluOp → Reg → ℤ → Slot
immediate_slot width o dst z = slot_with (form.Alu width o Immediate) (number_of dst) 0 (sign_offset o) (cast_unsigned w32 z)

-- what is left of the tests of an operation's slot, and what is made of it
abbrev IsOperation : Width → Operand → Reg → Reg → Source → Slot → AluOp → Type 0
IsOperation width operand dst src x s o =
    (leaves_unused_zero (form.Alu width (unsigned_of o) operand) s ≡ true)
    × (has_defined_fields (form.Alu width (unsigned_of o) operand) s ≡ true)
    × (alu_at width (unsigned_of o) operand s dst src ≡ insn.Alu width o dst x)

register_operation : (width : Width) (o : AluOp) (dst src : Reg) → IsOperation width Register dst src (source.Register src) (register_slot width o dst src) o
register_operation width op.Add dst src = (refl, refl, refl)
register_operation width _ dst src = (refl, refl, refl)

immediate_operation : (width : Width) (o : AluOp) (dst src : Reg) (z : ℤ)
    → IsOperation width Immediate dst src (source.Imm (cast_signed w32 (cast_unsigned w32 z))) (immediate_slot width o dst z) o
immediate_operation width op.Add dst src z = (refl, refl, refl)
immediate_operation width _ dst src z = (refl, refl, refl)

alu_read : (width : Width) (o : AluOp) (dst : Reg) (x : Source) (second : Option Slot) → IsSource x
    → IsReadFrom (insn.Alu width o dst x) (first_slot (insn.Alu width o dst x)) second
alu_read width o dst (source.Register src) second h =
    let known = register_operation width o dst src in
    is_read _ (register_slot width o dst src) second (form.Alu width (unsigned_of o) Register) dst src
    (alu_again width Register o) (register_of-number_of dst) (register_of-number_of src)
    (record { source = refl; unused = known.0; whole = refl; blank = refl; defined = known.1 }) known.2
alu_read width o dst (source.Imm z) second h =
    let known = immediate_operation width o dst R0 z in
    is_read _ (immediate_slot width o dst z) second (form.Alu width (unsigned_of o) Immediate) dst R0
    (alu_again width Immediate o) (register_of-number_of dst) refl
    (record { source = refl; unused = known.0; whole = refl; blank = refl; defined = known.1 })
    (known.2 ∙ ap (λ (y : ℤ). insn.Alu width o dst (source.Imm y)) (to_z-of_z w32 z h))

or_true : (a b : Bool) → b ≡ true → (a || b) ≡ true
or_true true b e = refl
or_true false b e = e

move_bits : (width : Width) (bits : ℕ) → is_move_of width bits ≡ true → (eqb bits 0 ≡ false) × (bits < 2 ^ 16)
move_bits W32 bits h = grind (arith, nat_tests)
move_bits W64 bits h = grind (arith, nat_tests)

sext_read : (width : Width) (bits : ℕ) (dst src : Reg) (second : Option Slot) → is_move_of width bits ≡ true
    → IsReadFrom (insn.Sext width bits dst src) (first_slot (insn.Sext width bits dst src)) second
sext_read width bits dst src second h =
    is_read _ (slot_with (form.Alu width op.Mov Register) (number_of dst) (number_of src) bits 0) second (form.Alu width op.Mov Register) dst src
    (alu_again width Register op.Mov) (register_of-number_of dst) (register_of-number_of src)
    (record { source = refl; unused = refl; whole = refl; blank = refl; defined = or_true (eqb bits 0) (is_move_of width bits) h })
    (rw (move_bits width bits h).0 refl)

-- ---- the others

store_read : (size : Size) (base : Reg) (offset : ℤ) (x : Source) (second : Option Slot) → IsSource x → FitsSigned w16 offset
    → IsReadFrom (insn.Store size base offset x) (first_slot (insn.Store size base offset x)) second
store_read size base offset (source.Register src) second h fits =
    is_read _ _ second (form.Store size Register) base src (form_again (form.Store size Register) tt) (register_of-number_of base) (register_of-number_of src)
    (record { source = refl; unused = refl; whole = refl; blank = refl; defined = refl })
    (ap (λ (k : ℤ). insn.Store size base k (source.Register src)) (to_z-of_z w16 offset fits))
store_read size base offset (source.Imm z) second h fits =
    is_read _ _ second (form.Store size Immediate) base R0 (form_again (form.Store size Immediate) tt) (register_of-number_of base) refl
    (record { source = refl; unused = refl; whole = refl; blank = refl; defined = refl })
    (ap (λ (k : ℤ). insn.Store size base k (source.Imm (cast_signed w32 (cast_unsigned w32 z)))) (to_z-of_z w16 offset fits)
    ∙ ap (λ (y : ℤ). insn.Store size base offset (source.Imm y)) (to_z-of_z w32 z h))

branch_read : (width : Width) (c : Cond) (left : Reg) (x : Source) (offset : ℤ) (second : Option Slot) → IsSource x → FitsSigned w16 offset
    → IsReadFrom (insn.Branch width c left x offset) (first_slot (insn.Branch width c left x offset)) second
branch_read width c left (source.Register src) offset second h fits =
    is_read _ _ second (form.Branch width c Register) left src
    (form_again (form.Branch width c Register) tt) (register_of-number_of left) (register_of-number_of src)
    (record { source = refl; unused = refl; whole = refl; blank = refl; defined = refl })
    (ap (λ (k : ℤ). insn.Branch width c left (source.Register src) k) (to_z-of_z w16 offset fits))
branch_read width c left (source.Imm z) offset second h fits =
    is_read _ _ second (form.Branch width c Immediate) left R0 (form_again (form.Branch width c Immediate) tt) (register_of-number_of left) refl
    (record { source = refl; unused = refl; whole = refl; blank = refl; defined = refl })
    (ap (λ (k : ℤ). insn.Branch width c left (source.Imm (cast_signed w32 (cast_unsigned w32 z))) k) (to_z-of_z w16 offset fits)
    ∙ ap (λ (y : ℤ). insn.Branch width c left (source.Imm y) offset) (to_z-of_z w32 z h))

wide_read : (dst : Reg) (value : ℕ) → IsReadFrom (insn.Wide dst value) (first_slot (insn.Wide dst value)) (Some (second_half (value / 2 ^ 32)))
wide_read dst value =
    let whole : 2 ^ 32 * (value / 2 ^ 32) + value % 2 ^ 32 ≡ value = omega arith in
    is_read _ _ (Some (second_half (value / 2 ^ 32))) form.Wide dst R0 (form_again form.Wide tt) (register_of-number_of dst) refl
    (record { source = refl; unused = refl; whole = refl; blank = refl; defined = refl }) (ap (insn.Wide dst) whole)

-- the second slot is the instruction's own, where it has one
abbrev pub Follows : Insn → Option Slot → Type 0
Follows (insn.Wide dst value) second = second ≡ Some (second_half (value / 2 ^ 32))
Follows _ second = Unit {0}

pub insn_read : (i : Insn) (second : Option Slot) → IsDefined i → Follows i second → IsReadFrom i (first_slot i) second
insn_read (insn.Alu width o dst src) second h follows = alu_read width o dst src second h
insn_read (insn.Sext width bits dst src) second h follows = sext_read width bits dst src second h
insn_read (insn.Neg width dst) second h follows =
    is_read _ _ second (form.Neg width) dst R0 (form_again (form.Neg width) tt) (register_of-number_of dst) refl
    (record { source = refl; unused = refl; whole = refl; blank = refl; defined = refl }) refl
insn_read (insn.Swap order bits dst) second h follows =
    is_read _ _ second (form.Swap order) dst R0 (form_again (form.Swap order) tt) (register_of-number_of dst) refl
    (record { source = refl; unused = refl; whole = refl; blank = refl; defined = h }) refl
insn_read (insn.Wide dst value) second h follows = rw follows (wide_read dst value)
insn_read (insn.Load size signed dst base offset) second h follows =
    is_read _ _ second (form.Load size signed) dst base (form_again (form.Load size signed) h.0) (register_of-number_of dst) (register_of-number_of base)
    (record { source = refl; unused = refl; whole = refl; blank = refl; defined = refl }) (ap (insn.Load size signed dst base) (to_z-of_z w16 offset h.1))
insn_read (insn.Store size base offset src) second h follows = store_read size base offset src second h.0 h.1
insn_read (insn.Jump offset) second h follows =
    is_read _ _ second form.Jump R0 R0 (form_again form.Jump tt) refl refl
    (record { source = refl; unused = refl; whole = refl; blank = refl; defined = refl }) (ap insn.Jump (to_z-of_z w16 offset h))
insn_read (insn.JumpFar offset) second h follows =
    is_read _ _ second form.JumpFar R0 R0 (form_again form.JumpFar tt) refl refl
    (record { source = refl; unused = refl; whole = refl; blank = refl; defined = refl }) (ap insn.JumpFar (to_z-of_z w32 offset h))
insn_read (insn.Branch width c left right offset) second h follows = branch_read width c left right offset second h.0 h.1
insn_read (insn.Call number) second h follows =
    is_read _ _ second form.Call R0 R0 (form_again form.Call tt) refl refl
    (record { source = refl; unused = refl; whole = refl; blank = refl; defined = refl }) (ap insn.Call (to_z-of_z w32 number h))
insn_read insn.Exit second h follows =
    is_read _ _ second form.Exit R0 R0 (form_again form.Exit tt) refl refl
    (record { source = refl; unused = refl; whole = refl; blank = refl; defined = refl }) refl

-- ---- the sizes of the fields

pub first_form : (i : Insn) → IsDefined i → form_of (first_slot i).opcode ≡ Some (form_of_insn i)
first_form (insn.Alu width o dst src) h = alu_again width (operand_of src) o
first_form (insn.Sext width bits dst src) h = alu_again width Register op.Mov
first_form (insn.Neg width dst) h = form_again (form.Neg width) tt
first_form (insn.Swap order bits dst) h = form_again (form.Swap order) tt
first_form (insn.Wide dst value) h = form_again form.Wide tt
first_form (insn.Load size signed dst base offset) h = form_again (form.Load size signed) h.0
first_form (insn.Store size base offset src) h = form_again (form.Store size (operand_of src)) tt
first_form (insn.Jump offset) h = form_again form.Jump tt
first_form (insn.JumpFar offset) h = form_again form.JumpFar tt
first_form (insn.Branch width c left right offset) h = form_again (form.Branch width c (operand_of right)) tt
first_form (insn.Call number) h = form_again form.Call tt
first_form insn.Exit h = form_again form.Exit tt

-- only a wide instruction has its opcode
abbrev pub is_wide : Insn → Bool
is_wide (insn.Wide dst value) = true
is_wide _ = false

abbrev is_wide_form : Form → Bool
is_wide_form form.Wide = true
is_wide_form _ = false

same_wide : (i : Insn) → is_wide_form (form_of_insn i) ≡ is_wide i
same_wide (insn.Alu width o dst src) = refl
same_wide _ = refl

-- a form other than that of a wide instruction
other_form : (f : Form) → (f ≡ form.Wide → ⊥) → false ≡ is_wide_form f
other_form form.Wide ne = absurd (ne refl)
other_form _ ne = refl

wide_form : (n : ℕ) (f : Form) → form_of n ≡ Some f → eqb n (opcode_of form.Wide) ≡ is_wide_form f
wide_form n f here =
    elim (cases_eq n (opcode_of form.Wide)) [
      | inl e ↦ let wide : form_of n ≡ Some form.Wide = rw e (form_again form.Wide tt) in
          let same : form.Wide ≡ f = same_Some form.Wide f (sym wide ∙ here) in rw (e, ← same) refl
      | inr ne ↦ rw (ne_eqb n (opcode_of form.Wide) ne) (other_form f (λ e. ne (sym (opcode_is n f here) ∙ ap opcode_of e)))
    ]

pub wide_opcode : (i : Insn) → IsDefined i → eqb (first_slot i).opcode (opcode_of form.Wide) ≡ is_wide i
wide_opcode i h = wide_form (first_slot i).opcode (form_of_insn i) (first_form i h) ∙ same_wide i

sign_below : (o : AluOp) → sign_offset o < 2 ^ 16
sign_below op.Add = omega arith
sign_below _ = omega arith

offset_below : (z : ℤ) → FitsSigned w16 z → cast_unsigned w16 z < 2 ^ 16
offset_below z fits = omega (arith, ints)

imm_below : (z : ℤ) → FitsSigned w32 z → cast_unsigned w32 z < 2 ^ 32
imm_below z fits = omega (arith, ints)

source_below : (x : Source) → IsSource x → (source_register x < 16) × (source_imm x < 2 ^ 32)
source_below (source.Imm z) h = (omega arith, imm_below z h)
source_below (source.Register r) h = (number_below r, omega arith)

swap_below : (bits : ℕ) → is_swap_of bits ≡ true → bits < 2 ^ 32
swap_below bits h = grind (arith, nat_tests)

fits_slot : (f g : Form) (dst src offset imm : ℕ) → form_of (opcode_of f) ≡ Some g → dst < 16 → src < 16 → offset < 2 ^ 16 → imm < 2 ^ 32
    → FitsSlot (slot_with f dst src offset imm)
fits_slot f g dst src offset imm here to from by number = record { opcode = opcode_below (opcode_of f) g here; dst = to; src = from; offset = by; imm = number }

pub first_fits : (i : Insn) → IsDefined i → FitsSlot (first_slot i)
first_fits (insn.Alu width o dst src) h =
    fits_slot (form.Alu width o (operand_of src)) _ _ _ _ _
    (alu_again width (operand_of src) o) (number_below dst) (source_below src h).0 (sign_below o) (source_below src h).1
first_fits (insn.Sext width bits dst src) h =
    fits_slot (form.Alu width op.Mov Register) _ _ _ _ _
    (alu_again width Register op.Mov) (number_below dst) (number_below src) (move_bits width bits h).1 (omega arith)
first_fits (insn.Neg width dst) h =
    fits_slot (form.Neg width) _ _ _ _ _ (form_again (form.Neg width) tt) (number_below dst) (omega arith) (omega arith) (omega arith)
first_fits (insn.Swap order bits dst) h =
    fits_slot (form.Swap order) _ _ _ _ _ (form_again (form.Swap order) tt) (number_below dst) (omega arith) (omega arith) (swap_below bits h)
first_fits (insn.Wide dst value) h = fits_slot form.Wide _ _ _ _ _ (form_again form.Wide tt) (number_below dst) (omega arith) (omega arith) (omega arith)
first_fits (insn.Load size signed dst base offset) h =
    fits_slot (form.Load size signed) _ _ _ _ _
    (form_again (form.Load size signed) h.0) (number_below dst) (number_below base) (offset_below offset h.1) (omega arith)
first_fits (insn.Store size base offset src) h =
    fits_slot (form.Store size (operand_of src)) _ _ _ _ _
    (form_again (form.Store size (operand_of src)) tt) (number_below base) (source_below src h.0).0 (offset_below offset h.1) (source_below src h.0).1
first_fits (insn.Jump offset) h = fits_slot form.Jump _ _ _ _ _ (form_again form.Jump tt) (omega arith) (omega arith) (offset_below offset h) (omega arith)
first_fits (insn.JumpFar offset) h =
    fits_slot form.JumpFar _ _ _ _ _ (form_again form.JumpFar tt) (omega arith) (omega arith) (omega arith) (imm_below offset h)
first_fits (insn.Branch width c left right offset) h =
    fits_slot (form.Branch width c (operand_of right)) _ _ _ _ _
    (form_again (form.Branch width c (operand_of right)) tt) (number_below left) (source_below right h.0).0 (offset_below offset h.1) (source_below right h.0).1
first_fits (insn.Call number) h = fits_slot form.Call _ _ _ _ _ (form_again form.Call tt) (omega arith) (omega arith) (omega arith) (imm_below number h)
first_fits insn.Exit h = fits_slot form.Exit _ _ _ _ _ (form_again form.Exit tt) (omega arith) (omega arith) (omega arith) (omega arith)

pub second_fits : (value : ℕ) → value < 2 ^ 64 → FitsSlot (second_half (value / 2 ^ 32))
second_fits value lt = record { opcode = omega arith; dst = omega arith; src = omega arith; offset = omega arith; imm = omega arith }

-- ---- the form of an instruction is one that an opcode means

unsigned_again : (o : AluOp) → unsigned_of (unsigned_of o) ≡ unsigned_of o
unsigned_again op.Add = refl
unsigned_again _ = refl

insn_form : (i : Insn) → IsDefined i → IsForm (form_of_insn i)
insn_form (insn.Alu width o dst src) h = unsigned_again o
insn_form (insn.Sext width bits dst src) h = refl
insn_form (insn.Load size signed dst base offset) h = h.0
insn_form _ h = tt

pub insn_form_again : (i : Insn) → IsDefined i → form_of (opcode_of (form_of_insn i)) ≡ Some (form_of_insn i)
insn_form_again i h = form_again (form_of_insn i) (insn_form i h)

-- a signed operation has the opcode of the unsigned one
same_code : (width : Width) (operand : Operand) (o : AluOp) → opcode_of (form.Alu width (unsigned_of o) operand) ≡ opcode_of (form.Alu width o operand)
same_code width operand op.Add = refl
same_code width operand _ = refl

pub same_opcode : (i : Insn) → opcode_of (form_of_insn i) ≡ (first_slot i).opcode
same_opcode (insn.Alu width o dst src) = same_code width (operand_of src) o
same_opcode _ = refl
