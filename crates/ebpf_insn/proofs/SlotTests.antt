-- What the tests of decode_slot show of a slot, apart from its context, through which no tactic has to look then.
use Rattle.std.proofs.Common.{◌≡◌, ℕ, ◌<◌, Bool, true, false, List, [], ◌∷◌, length, take, Option, Some, None, refl, sym, ap, subst, ◌∙◌, arith}
use Rattle.ebpf_insn.specs.declared.slot.Slot.{Slot}
use Rattle.ebpf_insn.specs.declared.register.Reg.{Reg}
use Rattle.ebpf_insn.specs.declared.insn.Insn.{Insn}
use Rattle.ebpf_insn.specs.declared.opcode.Form.{Form}
use Rattle.ebpf_insn.specs.declared.opcode.Form.TheVariants as form
use Rattle.ebpf_insn.specs.declared.fault.DecodeCode.TheVariants.{UnknownOpcode, UnknownRegister, UnusedFieldSet, MissingSecondSlot, BadSecondSlot}
use Rattle.ebpf_insn.specs.declared.fault.DecodeCode.TheVariants.{UndefinedField, UnsupportedForm}
use Rattle.ebpf_insn.specs.Registers.{number_of, register_of}
use Rattle.ebpf_insn.specs.Opcodes.{form_of, is_left_out}
use Rattle.ebpf_insn.specs.Fields.{has_left_out_source, leaves_unused_zero, lacks_second, has_bad_second, has_defined_fields}
use Rattle.ebpf_insn.specs.Slot.{listed}
use Rattle.ebpf_insn.specs.Program.{slots_in}
use Rattle.ebpf_insn.specs.Encoding.{slots_of}
use Rattle.ebpf_insn.specs.Decoding.{is_register, slot_fault, second_at, second_of}
use Rattle.ebpf_insn.specs.Decoded.{insn_at_slot}
use Rattle.ebpf_insn.proofs.Registers.{is_register_of, no_register, number_below}
use Rattle.ebpf_insn.proofs.InsnBytes.{by_wide}
use Rattle.ebpf_insn.proofs.FromSlots.{IsFine, IsEncodedBy, encoded}

pub nibble : (r : Reg) (n : ℕ) → number_of r ≡ n → n < 16
nibble r n e = rw (sym e) (number_below r)

pub encoded_as : (i : Insn) (f : Form) (s : Slot) (second : Option Slot) (dst src : Reg) → i ≡ insn_at_slot f s second dst src
    → IsFine f s second dst src → IsEncodedBy i s second
encoded_as i f s second dst src e fine = rw e (encoded f s second dst src fine)

-- the tests before that of the unused fields were passed
pub record HasRegisters (f : Form) (s : Slot) : Type 0 where
  pub here : form_of s.opcode ≡ Some f
  pub source : has_left_out_source f s.src ≡ false
  pub dst : is_register s.dst ≡ true
  pub src : is_register s.src ≡ true

pub registers : {f : Form} {s : Slot} {dst src : Reg} → Some f ≡ form_of s.opcode → false ≡ has_left_out_source f s.src
    → Some dst ≡ register_of s.dst → Some src ≡ register_of s.src → HasRegisters f s
registers {f} {s} {dst} {src} here source to from = record { here = sym here; source = sym source; dst = is_register_of s.dst dst (sym to); src = is_register_of s.src src (sym from) }

-- ---- the next slot, which is read only where a form takes two

lacks_same : (f : Form) (bytes : List ℕ) → lacks_second f (second_of f bytes) ≡ lacks_second f (second_at bytes)
lacks_same form.Wide bytes = refl
lacks_same _ bytes = refl

pub lacks_is : {b : Bool} {second : Option Slot} (f : Form) (bytes : List ℕ) → second ≡ second_of f bytes
    → b ≡ lacks_second f second → b ≡ lacks_second f (second_at bytes)
lacks_is f bytes read e = e ∙ ap (lacks_second f) read ∙ lacks_same f bytes

bad_same : (f : Form) (bytes : List ℕ) → has_bad_second f (second_of f bytes) ≡ has_bad_second f (second_at bytes)
bad_same form.Wide bytes = refl
bad_same _ bytes = refl

pub bad_is : {b : Bool} {second : Option Slot} (f : Form) (bytes : List ℕ) → second ≡ second_of f bytes
    → b ≡ has_bad_second f second → b ≡ has_bad_second f (second_at bytes)
bad_is f bytes read e = e ∙ ap (has_bad_second f) read ∙ bad_same f bytes

alone_encoded : (i : Insn) (s : Slot) (second : Option Slot) → slots_of i ≡ take (slots_in i) (s ∷ []) → slots_of i ≡ take (slots_in i) (s ∷ listed second)
alone_encoded i s None h = h
alone_encoded i s (Some t) h = by_wide (λ j. slots_of j ≡ take (slots_in j) (s ∷ []) → slots_of j ≡ take (slots_in j) (s ∷ t ∷ []))
    (λ dst value e. absurd (let two : 2 ≡ 1 = ap length e in omega arith))
    (λ j alone e. let one : slots_in j ≡ 1 = ap length alone.placed in rw one (rw one at e)) i h

encoded_same : (f : Form) (i : Insn) (s : Slot) (bytes : List ℕ) → IsEncodedBy i s (second_of f bytes) → IsEncodedBy i s (second_at bytes)
encoded_same form.Wide i s bytes h = h
encoded_same _ i s bytes h = (h.0, alone_encoded i s (second_at bytes) h.1)

pub encoded_with : (f : Form) (i : Insn) (s : Slot) (second : Option Slot) (bytes : List ℕ) → second ≡ second_of f bytes
    → IsEncodedBy i s second → IsEncodedBy i s (second_at bytes)
encoded_with f i s second bytes read h =
    let P : Option Slot → Type 0 = λ o. IsEncodedBy i s o in
    encoded_same f i s bytes (subst P read h)

-- ---- the first code that applies

pub fault_left_out : (s : Slot) (second : Option Slot) → None ≡ form_of s.opcode → true ≡ is_left_out s.opcode → slot_fault s second ≡ Some UnsupportedForm
fault_left_out s second here left_out = rw (← here, ← left_out) refl

pub fault_no_form : (s : Slot) (second : Option Slot) → None ≡ form_of s.opcode → false ≡ is_left_out s.opcode → slot_fault s second ≡ Some UnknownOpcode
fault_no_form s second here left_out = rw (← here, ← left_out) refl

pub fault_source : (f : Form) (s : Slot) (second : Option Slot) → Some f ≡ form_of s.opcode → true ≡ has_left_out_source f s.src
    → slot_fault s second ≡ Some UnsupportedForm
fault_source f s second here source = rw (← here, ← source) refl

pub fault_dst : (f : Form) (s : Slot) (second : Option Slot) → Some f ≡ form_of s.opcode → false ≡ has_left_out_source f s.src
    → register_of s.dst ≡ None → slot_fault s second ≡ Some UnknownRegister
fault_dst f s second here source to = rw (← here, ← source, no_register s.dst to) refl

pub fault_src : (f : Form) (s : Slot) (second : Option Slot) (dst : Reg) → Some f ≡ form_of s.opcode
    → false ≡ has_left_out_source f s.src → register_of s.dst ≡ Some dst → register_of s.src ≡ None
    → slot_fault s second ≡ Some UnknownRegister
fault_src f s second dst here source to from = rw (← here, ← source, is_register_of s.dst dst to, no_register s.src from) refl

pub fault_unused : (f : Form) (s : Slot) (second : Option Slot) → HasRegisters f s → false ≡ leaves_unused_zero f s → slot_fault s second ≡ Some UnusedFieldSet
fault_unused f s second has unused = rw (has.here, has.source, has.dst, has.src, ← unused) refl

pub fault_lacks : (f : Form) (s : Slot) (second : Option Slot) → HasRegisters f s → true ≡ leaves_unused_zero f s
    → true ≡ lacks_second f second → slot_fault s second ≡ Some MissingSecondSlot
fault_lacks f s second has unused lacks = rw (has.here, has.source, has.dst, has.src, ← unused, ← lacks) refl

pub fault_second : (f : Form) (s : Slot) (second : Option Slot) → HasRegisters f s → true ≡ leaves_unused_zero f s
    → false ≡ lacks_second f second → true ≡ has_bad_second f second → slot_fault s second ≡ Some BadSecondSlot
fault_second f s second has unused lacks bad = rw (has.here, has.source, has.dst, has.src, ← unused, ← lacks, ← bad) refl

pub fault_defined : (f : Form) (s : Slot) (second : Option Slot) → HasRegisters f s → true ≡ leaves_unused_zero f s
    → false ≡ lacks_second f second → false ≡ has_bad_second f second → false ≡ has_defined_fields f s
    → slot_fault s second ≡ Some UndefinedField
fault_defined f s second has unused lacks bad defined = rw (has.here, has.source, has.dst, has.src, ← unused, ← lacks, ← bad, ← defined) refl

pub no_fault : (f : Form) (s : Slot) (second : Option Slot) → HasRegisters f s → true ≡ leaves_unused_zero f s
    → false ≡ lacks_second f second → false ≡ has_bad_second f second → true ≡ has_defined_fields f s → slot_fault s second ≡ None
no_fault f s second has unused lacks bad defined = rw (has.here, has.source, has.dst, has.src, ← unused, ← lacks, ← bad, ← defined) refl
