-- A slot: an opcode, two registers (dst in the low nibble, src in the high one), a 16-bit offset and a 32-bit
-- immediate, little-endian (RFC 9669, section 3.1).
use Rattle.std.specs.Prelude.{ℕ, ◌+◌, ◌*◌, ◌/◌, ◌%◌, List, [], ◌∷◌, ◌++◌, slice_index, drop, Option, Some, None}
use Rattle.byteorder.specs.Endian.{little_number, little_bytes}
use Rattle.ebpf_insn.specs.declared.slot.Slot.{Slot}

-- the eight bytes of a slot
abbrev pub bytes_of_slot : Slot → List ℕ
bytes_of_slot s = s.opcode ∷ (s.dst + 16 * s.src) ∷ (little_bytes 2 s.offset ++ little_bytes 4 s.imm)

-- the slot that the bytes begin with
abbrev pub slot_at : List ℕ → Slot
slot_at bytes = record {
  opcode = slice_index bytes 0;
  dst = slice_index bytes 1 % 16;
  src = slice_index bytes 1 / 16;
  offset = little_number 2 (drop 2 bytes);
  imm = little_number 4 (drop 4 bytes);
}

-- the slots that are there of one
abbrev pub listed : Option Slot → List Slot
listed None = []
listed (Some s) = s ∷ []
