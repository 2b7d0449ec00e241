-- The name of what a relocation refers to. Compilers refer to static data by the symbol of its section, STT_SECTION, and by its place
-- there, which is the immediate of the slot.
use Rattle.std.specs.Prelude.{ℕ, Bool, ◌⊎◌, ◌≡◌, ◌+◌, ◌/◌, ◌%◌, true, false, List, length, Option, Some, None, ◌==◌, ◌&&◌, nat_le, nat_lt, cond}
use Rattle.ebpf_object_file.specs.declared.symbol.Symbol.{Symbol}
use Rattle.ebpf_object_file.specs.Field.{field}
use Rattle.ebpf_object_file.specs.First.{Finds}
use Rattle.ebpf_object_file.specs.Section.{section_of, sections_in, bytes_of}
use Rattle.ebpf_object_file.specs.Text.{text_at}
use Rattle.ebpf_object_file.specs.Symbol.{symbol_of, is_of_section}
use Rattle.ebpf_object_file.specs.File.{name_limit}

-- the immediate of the slot at a place, 0 where there is no slot
abbrev pub addend_at : List ℕ → ℕ → ℕ
addend_at bytes offset = cond (nat_le (offset + 8) (length bytes)) (field 4 bytes (offset + 4)) 0

-- STT_OBJECT, and one of its bytes is the section's byte of a number
abbrev pub is_data_at : ℕ → ℕ → Symbol → Bool
is_data_at section at s = s.info % 16 == 1 && s.section == section && nat_le s.value at && nat_lt at (s.value + s.size)

-- the number of the data that a symbol means: of the symbol of a section, the first data there at the addend
abbrev pub IsDataOf : (file symbols : List ℕ) → Symbol → ℕ → Option ℕ → Type 0
IsDataOf file symbols s addend meant =
    ((is_of_section (sections_in file) s ≡ false) × (meant ≡ None))
    ⊎ ((is_of_section (sections_in file) s ≡ true) × Finds (λ k. is_data_at s.section addend (symbol_of symbols k)) (length symbols / 24) meant)

-- how many bytes that data has, or else the symbol
abbrev pub size_of : List ℕ → Symbol → Option ℕ → ℕ
size_of symbols s None = s.size
size_of symbols s (Some k) = (symbol_of symbols k).size

-- the name of the symbol of a section is in the section of number e_shstrndx
abbrev pub name_of_none : (file strings : List ℕ) → Symbol → List ℕ
name_of_none file strings s =
    cond (is_of_section (sections_in file) s) (text_at (bytes_of file (field 2 file 62)) (section_of file s.section).name name_limit) (text_at strings s.name name_limit)

-- the name of that data, or else of the symbol
abbrev pub name_of : (file symbols strings : List ℕ) → Symbol → Option ℕ → List ℕ
name_of file symbols strings s None = name_of_none file strings s
name_of file symbols strings s (Some k) = text_at strings (symbol_of symbols k).name name_limit
