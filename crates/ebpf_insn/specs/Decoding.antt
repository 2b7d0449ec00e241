-- Why bytes are no program: the first code of the lowest slot that has one.
use Rattle.std.specs.Prelude.{Bool, false, not, ◌||◌, ◌==◌, nat_le, if◌then◌else◌, ◌≡◌, ◌*◌, ◌/◌}
use Rattle.std.specs.Prelude.{◌%◌, ℕ, zero, suc, List, [], ◌∷◌, length, drop, Option, Some, None}
use Rattle.ebpf_insn.specs.declared.slot.Slot.{Slot}
use Rattle.ebpf_insn.specs.declared.opcode.Form.{Form}
use Rattle.ebpf_insn.specs.declared.opcode.Form.TheVariants.{Wide}
use Rattle.ebpf_insn.specs.declared.fault.DecodeCode.{DecodeCode}
use Rattle.ebpf_insn.specs.declared.fault.DecodeCode.TheVariants.{WrongLength, UnknownOpcode, UnknownRegister, UnusedFieldSet, MissingSecondSlot}
use Rattle.ebpf_insn.specs.declared.fault.DecodeCode.TheVariants.{BadSecondSlot, UndefinedField, UnsupportedForm, ProgramTooLong}
use Rattle.ebpf_insn.specs.declared.fault.DecodeFault.{DecodeFault}
use Rattle.ebpf_insn.specs.declared.fault.DecodeFault.TheVariants.{Bad, NoMemory}
use Rattle.ebpf_insn.specs.Slot.{slot_at}
use Rattle.ebpf_insn.specs.Faults.{first_of, lowest}
use Rattle.ebpf_insn.specs.Opcodes.{opcode_of, form_of, is_left_out}
use Rattle.ebpf_insn.specs.Fields.{leaves_unused_zero, has_left_out_source, has_defined_fields, lacks_second, has_bad_second}

abbrev pub is_register : ℕ → Bool
is_register nibble = nat_le nibble 10

abbrev pub form_fault : Option Form → Slot → Option Slot → Option DecodeCode
form_fault None s second = Some (if is_left_out s.opcode then UnsupportedForm else UnknownOpcode)
form_fault (Some f) s second = first_of (
    (has_left_out_source f s.src, UnsupportedForm) ∷
    (not (is_register s.dst), UnknownRegister) ∷
    (not (is_register s.src), UnknownRegister) ∷
    (not (leaves_unused_zero f s), UnusedFieldSet) ∷
    (lacks_second f second, MissingSecondSlot) ∷
    (has_bad_second f second, BadSecondSlot) ∷
    (not (has_defined_fields f s), UndefinedField) ∷
    [])

-- the first code that refuses a slot, with the slot after it
abbrev pub slot_fault : Slot → Option Slot → Option DecodeCode
slot_fault s second = form_fault (form_of s.opcode) s second

-- the slot after the one that the bytes begin with
abbrev pub second_at : List ℕ → Option Slot
second_at bytes = if nat_le 16 (length bytes) then Some (slot_at (drop 8 bytes)) else None

-- the same, where a form takes two slots
abbrev pub second_of : Form → List ℕ → Option Slot
second_of Wide bytes = second_at bytes
second_of _ bytes = None

-- the slot after one with the opcode of a wide instruction, which was looked at with it
abbrev pub is_second_half : List ℕ → ℕ → Bool
is_second_half bytes zero = false
is_second_half bytes (suc slot) = (slot_at (drop (8 * slot) bytes)).opcode == opcode_of Wide

abbrev pub place_fault : List ℕ → ℕ → Option DecodeCode
place_fault bytes slot =
    if is_second_half bytes slot then None else slot_fault (slot_at (drop (8 * slot) bytes)) (second_at (drop (8 * slot) bytes))

-- the first code that refuses the slot at a place in the bytes
abbrev pub fault_at : List ℕ → ℕ → Option DecodeCode
fault_at bytes slot = if slot == 4096 then Some ProgramTooLong else place_fault bytes slot

abbrev pub is_uneven : ℕ → Bool
is_uneven size = size == 0 || not (size % 8 == 0)

-- the fault of bytes that are no program
abbrev pub decode_fault : List ℕ → Option (ℕ × DecodeCode)
decode_fault bytes = if is_uneven (length bytes) then Some (0, WrongLength) else lowest (fault_at bytes) (length bytes / 8)

-- a fault is the defined one, or memory ran out
abbrev pub IsDecodeFault : List ℕ → DecodeFault → Type 0
IsDecodeFault bytes NoMemory = is_uneven (length bytes) ≡ false
IsDecodeFault bytes (Bad slot code) = decode_fault bytes ≡ Some (slot, code)
