-- Read-only data whose address a slot loads: a relocation of type R_BPF_64_64 at a 64-bit immediate, of a symbol that is in such data.
use Rattle.std.specs.Prelude.{ℕ, Bool, ◌+◌, ◌-◌, ◌*◌, ◌/◌, ◌%◌, ◌^◌, List, [], ◌∷◌, length, slice_index, ◌==◌, ◌&&◌, ◌||◌, not, nat_le, nat_lt}
use Rattle.std.specs.Prelude.{Option, Some, None, unwrap_or, if◌then◌else◌, ℤ, pos, negsuc, zero, suc, false}
use Rattle.std.specs.Int.{w64, cast_signed}
use Rattle.ebpf_object_file.specs.declared.section.Section.{Section}
use Rattle.ebpf_object_file.specs.declared.symbol.Symbol.{Symbol}
use Rattle.ebpf_object_file.specs.declared.relocation.Relocation.{Relocation}
use Rattle.ebpf_object_file.specs.declared.outside.Place.{Place}
use Rattle.ebpf_object_file.specs.declared.outside.Target.{Target}
use Rattle.ebpf_object_file.specs.declared.outside.Target.TheVariants as target
use Rattle.ebpf_object_file.specs.declared.function.Function.{Function}
use Rattle.ebpf_object_file.specs.declared.data_use.DataUse.{DataUse}
use Rattle.ebpf_object_file.specs.Field.{field}
use Rattle.ebpf_object_file.specs.First.{first_fault}
use Rattle.ebpf_object_file.specs.Section.{section_of, sections_in}
use Rattle.ebpf_object_file.specs.Symbol.{symbol_or_null, is_in_file, is_of_section}
use Rattle.ebpf_object_file.specs.Outside.{is_maps}
use Rattle.ebpf_object_file.specs.Source.{named_section}

-- some number below n passes the test
unfoldable pub any_below : (ℕ → Bool) → ℕ → Bool
any_below test zero = false
any_below test (suc n) = any_below test n || test n

-- SHT_REL or SHT_RELA
abbrev pub has_entries : Section → Bool
has_entries s = s.kind == 9 || s.kind == 4

-- relocations for the section of a number
abbrev pub relocates : ℕ → Section → Bool
relocates i s = has_entries s && s.info == i

-- the section of a number has relocations of its own
abbrev pub has_relocations : List ℕ → ℕ → Bool
has_relocations file i = any_below (λ k. relocates i (section_of file k)) (sections_in file)

-- the file has a section ".comment", as gcc writes and clang doesn't
abbrev pub has_comment : List ℕ → Bool
has_comment file = any_below (named_section file (46 ∷ 99 ∷ 111 ∷ 109 ∷ 109 ∷ 101 ∷ 110 ∷ 116 ∷ [])) (sections_in file)

-- Why what is in the section of a number isn't data that can be loaded: SHF_EXECINSTR is 4, SHF_WRITE 1, SHF_ALLOC 2, and SHT_PROGBITS 1.
abbrev pub section_fault : List ℕ → ℕ → Option Target
section_fault file i = first_fault (
    (not (is_maps file i), target.Map) ∷
    ((section_of file i).flags / 4 % 2 == 0, target.Function) ∷
    ((section_of file i).flags % 2 == 0, target.Variable) ∷
    (not (has_relocations file i), target.Addresses) ∷
    ((section_of file i).flags / 2 % 2 == 1 && (section_of file i).kind == 1, target.Unloaded) ∷
    [])

-- the slot that a relocation is for, from the function's first
abbrev pub slot_of : Place → Relocation → ℕ
slot_of p r = (r.offset - p.from) / 8

-- R_BPF_64_64, at a slot of the function with opcode 0x18, whose second slot is in the function too
abbrev pub is_wide : Function → Relocation → Bool
is_wide f r =
    r.kind == 1 && nat_le f.place.from r.offset && (r.offset - f.place.from) % 8 == 0
    && nat_lt (slot_of f.place r + 1) (length f.code.now / 8) && slice_index f.code.now (8 * slot_of f.place r) == 24

-- the 64-bit immediate of a slot and the next one, without a sign
abbrev pub wide_immediate : List ℕ → ℕ → ℕ
wide_immediate code slot = field 4 code (8 * slot + 4) + 2 ^ 32 * field 4 code (8 * slot + 12)

-- The offset in its section that is meant, if it is certain. Of static data, and of what is first in its section, it is the immediate.
-- Of other data clang writes 0, and gcc the sum of the symbol's value and an addend, which can be 0 too.
abbrev pub meant_offset : (sections : ℕ) (comment : Bool) → Symbol → (immediate : ℕ) → Option ℤ
meant_offset sections comment s immediate =
    if is_of_section sections s || s.value == 0 then Some (cast_signed w64 immediate)
    else if immediate == 0 && not comment then Some (pos s.value) else None

-- within an i32
abbrev pub is_near : ℤ → Bool
is_near (pos n) = nat_lt n (2 ^ 31)
is_near (negsuc n) = nat_lt n (2 ^ 31)

abbrev pub offset_fault : Option ℤ → Option Target
offset_fault None = Some target.Unplaced
offset_fault (Some offset) = if is_near offset then None else Some target.Unloaded

-- the first of two faults
abbrev pub first_of : Option Target → Option Target → Option Target
first_of None later = later
first_of (Some t) later = Some t

-- what a relocation of the function means: its symbol, and the offset in the symbol's section
abbrev pub offset_at : (file : List ℕ) → Function → Symbol → Relocation → Option ℤ
offset_at file f s r = meant_offset (sections_in file) (has_comment file) s (wide_immediate f.code.now (slot_of f.place r))

-- why the slot can't load the address of a symbol
abbrev pub load_fault : (file : List ℕ) → Function → Symbol → Relocation → Option Target
load_fault file f s r = if is_wide f r then offset_fault (offset_at file f s r) else Some target.Unloaded

-- why the symbol of a relocation isn't data whose address is loaded, by what it is
abbrev pub symbol_fault : (file : List ℕ) → Function → Symbol → Relocation → Option Target
symbol_fault file f s r =
    if is_in_file (sections_in file) s then first_of (section_fault file s.section) (load_fault file f s r) else Some target.External

abbrev pub data_fault : (file symbols : List ℕ) → Function → Relocation → Option Target
data_fault file symbols f r = symbol_fault file f (symbol_or_null symbols r.symbol) r

-- the data, where there is no such fault
abbrev pub use_of : (file symbols : List ℕ) → Function → Relocation → DataUse
use_of file symbols f r = record {
  section = (symbol_or_null symbols r.symbol).section;
  offset = unwrap_or (offset_at file f (symbol_or_null symbols r.symbol) r) (pos 0);
}
