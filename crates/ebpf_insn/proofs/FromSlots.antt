-- The instruction of a slot that has no fault is encoded by the slot.
use Rattle.std.proofs.Common.{◌≡◌, ℕ, ◌+◌, ◌*◌, ◌/◌, ◌%◌, ◌<◌, ◌^◌, Bool, true, false, not, eqb, nat_le, if◌then◌else◌, ◌&&◌, ◌||◌, [], ◌∷◌, take}
use Rattle.std.proofs.Common.{Option, Some, None, w16, w32, FitsSigned, refl, sym, ap, ◌∙◌, arith}
use Rattle.std.proofs.lemmas.Bool.{eqb-true}
use Rattle.std.proofs.lemmas.Bool.Decides.{nat_tests}
use Rattle.std.proofs.lemmas.Int.{ints, of_z-to_z}
use Rattle.std.specs.Prelude.{IfSome}
use Rattle.std.specs.Int.{cast_signed, cast_unsigned}
use Rattle.ebpf_insn.specs.declared.slot.Slot.{Slot}
use Rattle.ebpf_insn.specs.declared.register.Reg.{Reg}
use Rattle.ebpf_insn.specs.declared.insn.Insn.{Insn}
use Rattle.ebpf_insn.specs.declared.insn.Insn.TheVariants as insn
use Rattle.ebpf_insn.specs.declared.insn.Source.{Source}
use Rattle.ebpf_insn.specs.declared.insn.Source.TheVariants as source
use Rattle.ebpf_insn.specs.declared.insn.AluOp.{AluOp}
use Rattle.ebpf_insn.specs.declared.insn.AluOp.TheVariants as op
use Rattle.ebpf_insn.specs.declared.insn.Width.{Width}
use Rattle.ebpf_insn.specs.declared.opcode.Form.{Form}
use Rattle.ebpf_insn.specs.declared.opcode.Form.TheVariants as form
use Rattle.ebpf_insn.specs.declared.opcode.Operand.{Operand}
use Rattle.ebpf_insn.specs.declared.opcode.Operand.TheVariants.{Immediate, Register}
use Rattle.ebpf_insn.specs.Registers.{number_of}
use Rattle.ebpf_insn.specs.Slot.{listed}
use Rattle.ebpf_insn.specs.Program.{slots_in}
use Rattle.ebpf_insn.specs.Opcodes.{alu_class, operand_bit, alu_code, jump_class, condition_code, size_code, store_class, opcode_of, form_of}
use Rattle.ebpf_insn.specs.Fields.{takes_register, offset_chooses, uses, leaves_unused_zero, has_defined_fields, is_move_of, is_blank}
use Rattle.ebpf_insn.specs.Fields.{lacks_second, has_bad_second}
use Rattle.ebpf_insn.specs.Encoding.{unsigned_of, operand_of, source_register, source_imm, sign_offset, slot_with, second_half, slots_of, IsSource, IsDefined}
use Rattle.ebpf_insn.specs.Decoded.{source_at, signed_by, alu_at, insn_at_slot}
use Rattle.ebpf_insn.proofs.SlotBytes.{FitsSlot, same_slot}
use Rattle.ebpf_insn.proofs.Opcodes.{opcode_is, is_form}

-- the slots encode the instruction
abbrev pub IsEncodedBy : Insn → Slot → Option Slot → Type 0
IsEncodedBy i s second = IsDefined i × (slots_of i ≡ take (slots_in i) (s ∷ listed second))

-- a field that isn't used is zero
zero_field : (n : ℕ) → (false || eqb n 0) ≡ true → n ≡ 0
zero_field n e = eqb-true n 0 e

not_false : (b : Bool) → not b ≡ false → b ≡ true
not_false true e = refl
not_false false e = sym e

-- what the test of the unused fields says of each
record AreZero (f : Form) (s : Slot) : Type 0 where
  pub dst : ((uses f).dst || eqb s.dst 0) ≡ true
  pub src : ((uses f).src || eqb s.src 0) ≡ true
  pub offset : ((uses f).offset || eqb s.offset 0) ≡ true
  pub imm : ((uses f).imm || eqb s.imm 0) ≡ true

all_four : (a b c d : Bool) → (a && b && c && d) ≡ true → (a ≡ true) × (b ≡ true) × (c ≡ true) × (d ≡ true)
all_four true true true true e = (refl, refl, refl, refl)
all_four true true true false e = absurd cc
all_four true true false d e = absurd cc
all_four true false c d e = absurd cc
all_four false b c d e = absurd cc

are_zero : (f : Form) (s : Slot) → leaves_unused_zero f s ≡ true → AreZero f s
are_zero f s e =
    let each = all_four ((uses f).dst || eqb s.dst 0) ((uses f).src || eqb s.src 0) ((uses f).offset || eqb s.offset 0) ((uses f).imm || eqb s.imm 0) e in
    record { dst = each.0; src = each.1; offset = each.2; imm = each.3 }

-- signed fields
offset_again : (s : Slot) → FitsSlot s → cast_unsigned w16 (cast_signed w16 s.offset) ≡ s.offset
offset_again s fits = of_z-to_z w16 s.offset fits.offset

imm_again : (s : Slot) → FitsSlot s → cast_unsigned w32 (cast_signed w32 s.imm) ≡ s.imm
imm_again s fits = of_z-to_z w32 s.imm fits.imm

offset_fits : (s : Slot) → FitsSlot s → FitsSigned w16 (cast_signed w16 s.offset)
offset_fits s fits = let below : s.offset < 2 ^ 16 = fits.offset in omega (arith, ints)

imm_fits : (s : Slot) → FitsSlot s → FitsSigned w32 (cast_signed w32 s.imm)
imm_fits s fits = let below : s.imm < 2 ^ 32 = fits.imm in omega (arith, ints)

-- ---- the second operand

record IsSourceOf (x : Source) (operand : Operand) (s : Slot) : Type 0 where
  pub fits : IsSource x
  pub kind : operand_of x ≡ operand
  pub register : source_register x ≡ s.src
  pub imm : source_imm x ≡ s.imm

source_is : (operand : Operand) (s : Slot) (src : Reg) → FitsSlot s → number_of src ≡ s.src
    → (takes_register operand || eqb s.src 0) ≡ true → (not (takes_register operand) || eqb s.imm 0) ≡ true
    → IsSourceOf (source_at operand s src) operand s
source_is Immediate s src fits from unused-src unused-imm = record { fits = imm_fits s fits; kind = refl; register = sym (zero_field s.src unused-src); imm = imm_again s fits }
source_is Register s src fits from unused-src unused-imm = record { fits = tt; kind = refl; register = from; imm = sym (zero_field s.imm unused-imm) }

-- ---- arithmetic

-- the slot of an instruction that takes up one
one : (f : Form) (dst src offset imm : ℕ) (s : Slot) → opcode_of f ≡ s.opcode → dst ≡ s.dst → src ≡ s.src → offset ≡ s.offset
    → imm ≡ s.imm → slot_with f dst src offset imm ∷ [] ≡ s ∷ []
one f dst src offset imm s opcode to from by number = ap (λ (t : Slot). t ∷ []) (same_slot (slot_with f dst src offset imm) s opcode to from by number)

record IsSignedBy (o : AluOp) (s : Slot) : Type 0 where
  pub code : alu_code (signed_by s.offset o) ≡ alu_code o
  pub sign : sign_offset (signed_by s.offset o) ≡ s.offset

-- an operation whose offset is unused
plain : (o : AluOp) (s : Slot) → signed_by s.offset o ≡ o → sign_offset o ≡ 0 → (false || eqb s.offset 0) ≡ true → IsSignedBy o s
plain o s same zero-sign unused = record { code = ap alu_code same; sign = ap sign_offset same ∙ zero-sign ∙ sym (zero_field s.offset unused) }

-- a division or a remainder
divided : (o signed : AluOp) (s : Slot) (b : Bool) → eqb s.offset 0 ≡ b → signed_by s.offset o ≡ (if b then o else signed)
    → alu_code signed ≡ alu_code o → sign_offset o ≡ 0 → sign_offset signed ≡ 1 → nat_le s.offset 1 ≡ true → IsSignedBy o s
divided o signed s true here same code zero-sign one-sign le = record { code = ap alu_code same; sign = ap sign_offset same ∙ zero-sign ∙ sym (eqb-true s.offset 0 here) }
divided o signed s false here same code zero-sign one-sign le =
    let at : s.offset ≡ 1 = grind (arith, nat_tests) in
    record { code = ap alu_code same ∙ code; sign = ap sign_offset same ∙ one-sign ∙ sym at }

abbrev IsMove : AluOp → Operand → Type 0
IsMove op.Mov Register = Unit {0}
IsMove _ operand = ⊥

signed_is : (o : AluOp) (width : Width) (operand : Operand) (s : Slot) → unsigned_of o ≡ o → (IsMove o operand → ⊥)
    → (offset_chooses o operand || eqb s.offset 0) ≡ true → has_defined_fields (form.Alu width o operand) s ≡ true → IsSignedBy o s
signed_is op.Add width operand s plain-op other unused defined = plain op.Add s refl refl unused
signed_is op.Sub width operand s plain-op other unused defined = plain op.Sub s refl refl unused
signed_is op.Mul width operand s plain-op other unused defined = plain op.Mul s refl refl unused
signed_is op.Or width operand s plain-op other unused defined = plain op.Or s refl refl unused
signed_is op.And width operand s plain-op other unused defined = plain op.And s refl refl unused
signed_is op.Lsh width operand s plain-op other unused defined = plain op.Lsh s refl refl unused
signed_is op.Rsh width operand s plain-op other unused defined = plain op.Rsh s refl refl unused
signed_is op.Xor width operand s plain-op other unused defined = plain op.Xor s refl refl unused
signed_is op.Arsh width operand s plain-op other unused defined = plain op.Arsh s refl refl unused
signed_is op.Mov width Immediate s plain-op other unused defined = plain op.Mov s refl refl unused
signed_is op.Mov width Register s plain-op other unused defined = absurd (other tt)
signed_is op.Div width operand s plain-op other unused defined = divided op.Div op.SDiv s (eqb s.offset 0) refl refl refl refl refl defined
signed_is op.Rem width operand s plain-op other unused defined = divided op.Rem op.SRem s (eqb s.offset 0) refl refl refl refl refl defined
signed_is op.SDiv width operand s plain-op other unused defined = absurd cc
signed_is op.SRem width operand s plain-op other unused defined = absurd cc

-- what is known of a slot without a fault
pub record IsFine (f : Form) (s : Slot) (second : Option Slot) (dst src : Reg) : Type 0 where
  pub fits : FitsSlot s
  pub next : IfSome second (λ t. t.imm < 2 ^ 32)
  pub here : form_of s.opcode ≡ Some f
  pub to : number_of dst ≡ s.dst
  pub from : number_of src ≡ s.src
  pub unused : leaves_unused_zero f s ≡ true
  pub whole : lacks_second f second ≡ false
  pub blank : has_bad_second f second ≡ false
  pub defined : has_defined_fields f s ≡ true

operated : (width : Width) (o : AluOp) (operand : Operand) (s : Slot) (second : Option Slot) (dst src : Reg)
    → IsFine (form.Alu width o operand) s second dst src → (IsMove o operand → ⊥)
    → IsEncodedBy (insn.Alu width (signed_by s.offset o) dst (source_at operand s src)) s second
operated width o operand s second dst src fine other =
    let zero = are_zero (form.Alu width o operand) s fine.unused in
    let from = source_is operand s src fine.fits fine.from zero.src zero.imm in
    let sign = signed_is o width operand s (is_form s.opcode (form.Alu width o operand) fine.here) other zero.offset fine.defined in
    let opcode : alu_class width + 8 * operand_bit (operand_of (source_at operand s src)) + 16 * alu_code (signed_by s.offset o) ≡ s.opcode =
    rw (from.kind, sign.code) (opcode_is s.opcode (form.Alu width o operand) fine.here) in (
      from.fits,
      ap (λ (t : Slot). t ∷ []) (same_slot (slot_with
          (form.Alu width (signed_by s.offset o) (operand_of (source_at operand s src))) (number_of dst)
          (source_register (source_at operand s src)) (sign_offset (signed_by s.offset o))
          (source_imm (source_at operand s src))) s opcode fine.to from.register sign.sign from.imm),
    )

-- a move between registers
moved : (width : Width) (s : Slot) (second : Option Slot) (dst src : Reg) (b : Bool)
    → IsFine (form.Alu width op.Mov Register) s second dst src → eqb s.offset 0 ≡ b
    → IsEncodedBy (if b then insn.Alu width op.Mov dst (source.Register src) else insn.Sext width s.offset dst src) s second
moved width s second dst src true fine here =
    let zero = are_zero (form.Alu width op.Mov Register) s fine.unused in
    (tt, one (form.Alu width op.Mov Register) _ _ _ _ s (opcode_is s.opcode (form.Alu width op.Mov Register) fine.here) fine.to fine.from (sym (eqb-true s.offset 0 here)) (sym (zero_field s.imm zero.imm)))
moved width s second dst src false fine here =
    let zero = are_zero (form.Alu width op.Mov Register) s fine.unused in
    let defined : is_move_of width s.offset ≡ true = rw here at fine.defined in
    (defined, one (form.Alu width op.Mov Register) _ _ _ _ s (opcode_is s.opcode (form.Alu width op.Mov Register) fine.here) fine.to fine.from refl (sym (zero_field s.imm zero.imm)))

alu_encoded : (width : Width) (o : AluOp) (operand : Operand) (s : Slot) (second : Option Slot) (dst src : Reg)
    → IsFine (form.Alu width o operand) s second dst src → IsEncodedBy (alu_at width o operand s dst src) s second
alu_encoded width op.Mov Register s second dst src fine = moved width s second dst src (eqb s.offset 0) fine refl
alu_encoded width op.Mov Immediate s second dst src fine = operated width op.Mov Immediate s second dst src fine (λ e. e)
alu_encoded width op.Add operand s second dst src fine = operated width op.Add operand s second dst src fine (λ e. e)
alu_encoded width op.Sub operand s second dst src fine = operated width op.Sub operand s second dst src fine (λ e. e)
alu_encoded width op.Mul operand s second dst src fine = operated width op.Mul operand s second dst src fine (λ e. e)
alu_encoded width op.Div operand s second dst src fine = operated width op.Div operand s second dst src fine (λ e. e)
alu_encoded width op.SDiv operand s second dst src fine = operated width op.SDiv operand s second dst src fine (λ e. e)
alu_encoded width op.Or operand s second dst src fine = operated width op.Or operand s second dst src fine (λ e. e)
alu_encoded width op.And operand s second dst src fine = operated width op.And operand s second dst src fine (λ e. e)
alu_encoded width op.Lsh operand s second dst src fine = operated width op.Lsh operand s second dst src fine (λ e. e)
alu_encoded width op.Rsh operand s second dst src fine = operated width op.Rsh operand s second dst src fine (λ e. e)
alu_encoded width op.Rem operand s second dst src fine = operated width op.Rem operand s second dst src fine (λ e. e)
alu_encoded width op.SRem operand s second dst src fine = operated width op.SRem operand s second dst src fine (λ e. e)
alu_encoded width op.Xor operand s second dst src fine = operated width op.Xor operand s second dst src fine (λ e. e)
alu_encoded width op.Arsh operand s second dst src fine = operated width op.Arsh operand s second dst src fine (λ e. e)

-- ---- every form

wide_encoded : (s : Slot) (second : Option Slot) (dst src : Reg) → IsFine form.Wide s second dst src
    → IsEncodedBy (insn_at_slot form.Wide s second dst src) s second
wide_encoded s None dst src fine = absurd (let lacks = fine.whole in cc)
wide_encoded s (Some t) dst src fine =
    let zero = are_zero form.Wide s fine.unused in
    let blank : is_blank t ≡ true = not_false (is_blank t) fine.blank in
    let fields = all_four (eqb t.opcode 0) (eqb t.dst 0) (eqb t.src 0) (eqb t.offset 0) blank in
    let low : s.imm < 2 ^ 32 = fine.fits.imm in
    let high : t.imm < 2 ^ 32 = fine.next in
    let lower : (2 ^ 32 * t.imm + s.imm) % 2 ^ 32 ≡ s.imm = omega arith in
    let upper : (2 ^ 32 * t.imm + s.imm) / 2 ^ 32 ≡ t.imm = omega arith in
    let first : slot_with form.Wide (number_of dst) 0 0 ((2 ^ 32 * t.imm + s.imm) % 2 ^ 32) ≡ s =
    same_slot _ s (opcode_is s.opcode form.Wide fine.here) fine.to (sym (zero_field s.src zero.src)) (sym (zero_field s.offset zero.offset)) lower in
    let next : second_half ((2 ^ 32 * t.imm + s.imm) / 2 ^ 32) ≡ t = same_slot _ t (sym (eqb-true t.opcode 0 fields.0)) (sym (eqb-true t.dst 0 fields.1)) (sym (eqb-true t.src 0 fields.2)) (sym (eqb-true t.offset 0 fields.3)) upper in
    (omega arith, ap (λ (a : Slot). a ∷ second_half ((2 ^ 32 * t.imm + s.imm) / 2 ^ 32) ∷ []) first ∙ ap (λ (b : Slot). s ∷ b ∷ []) next)

pub encoded : (f : Form) (s : Slot) (second : Option Slot) (dst src : Reg) → IsFine f s second dst src → IsEncodedBy (insn_at_slot f s second dst src) s second
encoded (form.Alu width o operand) s second dst src fine = alu_encoded width o operand s second dst src fine
encoded (form.Neg width) s second dst src fine =
    let zero = are_zero (form.Neg width) s fine.unused in
    (tt, one (form.Neg width) _ _ _ _ s (opcode_is s.opcode _ fine.here) fine.to (sym (zero_field s.src zero.src)) (sym (zero_field s.offset zero.offset)) (sym (zero_field s.imm zero.imm)))
encoded (form.Swap order) s second dst src fine =
    let zero = are_zero (form.Swap order) s fine.unused in
    (fine.defined, one (form.Swap order) _ _ _ _ s (opcode_is s.opcode _ fine.here) fine.to (sym (zero_field s.src zero.src)) (sym (zero_field s.offset zero.offset)) refl)
encoded form.Wide s second dst src fine = wide_encoded s second dst src fine
encoded (form.Load size signed) s second dst src fine =
    let zero = are_zero (form.Load size signed) s fine.unused in
    ((is_form s.opcode (form.Load size signed) fine.here, offset_fits s fine.fits), one (form.Load size signed) _ _ _ _ s (opcode_is s.opcode _ fine.here) fine.to fine.from (offset_again s fine.fits) (sym (zero_field s.imm zero.imm)))
encoded (form.Store size operand) s second dst src fine =
    let zero = are_zero (form.Store size operand) s fine.unused in
    let from = source_is operand s src fine.fits fine.from zero.src zero.imm in
    let opcode : 0x60 + store_class (operand_of (source_at operand s src)) + 8 * size_code size ≡ s.opcode =
    rw from.kind (opcode_is s.opcode (form.Store size operand) fine.here) in
    ((from.fits, offset_fits s fine.fits), one (form.Store size (operand_of (source_at operand s src))) _ _ _ _ s opcode fine.to from.register (offset_again s fine.fits) from.imm)
encoded form.Jump s second dst src fine =
    let zero = are_zero form.Jump s fine.unused in
    (offset_fits s fine.fits, one form.Jump _ _ _ _ s (opcode_is s.opcode _ fine.here) (sym (zero_field s.dst zero.dst)) (sym (zero_field s.src zero.src)) (offset_again s fine.fits) (sym (zero_field s.imm zero.imm)))
encoded form.JumpFar s second dst src fine =
    let zero = are_zero form.JumpFar s fine.unused in
    (imm_fits s fine.fits, one form.JumpFar _ _ _ _ s (opcode_is s.opcode _ fine.here) (sym (zero_field s.dst zero.dst)) (sym (zero_field s.src zero.src)) (sym (zero_field s.offset zero.offset)) (imm_again s fine.fits))
encoded (form.Branch width condition operand) s second dst src fine =
    let zero = are_zero (form.Branch width condition operand) s fine.unused in
    let from = source_is operand s src fine.fits fine.from zero.src zero.imm in
    let opcode : jump_class width + 8 * operand_bit (operand_of (source_at operand s src)) + 16 * condition_code condition ≡ s.opcode =
    rw from.kind (opcode_is s.opcode (form.Branch width condition operand) fine.here) in
    ((from.fits, offset_fits s fine.fits), one (form.Branch width condition (operand_of (source_at operand s src))) _ _ _ _ s opcode fine.to from.register (offset_again s fine.fits) from.imm)
encoded form.Call s second dst src fine =
    let zero = are_zero form.Call s fine.unused in
    (imm_fits s fine.fits, one form.Call _ _ _ _ s (opcode_is s.opcode _ fine.here) (sym (zero_field s.dst zero.dst)) (sym (zero_field s.src zero.src)) (sym (zero_field s.offset zero.offset)) (imm_again s fine.fits))
encoded form.Exit s second dst src fine =
    let zero = are_zero form.Exit s fine.unused in
    (tt, one form.Exit _ _ _ _ s (opcode_is s.opcode _ fine.here) (sym (zero_field s.dst zero.dst)) (sym (zero_field s.src zero.src)) (sym (zero_field s.offset zero.offset)) (sym (zero_field s.imm zero.imm)))
