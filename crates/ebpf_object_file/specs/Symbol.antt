-- The symbol table (ELF, "Symbol Table"): an Elf64_Sym has 24 bytes.
use Rattle.std.specs.Prelude.{ℕ, Bool, ◌+◌, ◌*◌, ◌%◌, List, slice_index, ◌==◌, ◌&&◌, nat_le, nat_lt, cond, length, ◌/◌}
use Rattle.ebpf_object_file.specs.declared.symbol.Symbol.{Symbol}
use Rattle.ebpf_object_file.specs.Field.{field}
use Rattle.ebpf_object_file.specs.Text.{is_named}

-- the symbol of a number
abbrev pub symbol_of : List ℕ → ℕ → Symbol
symbol_of table k = record {
  name = field 4 table (24 * k);
  info = slice_index table (24 * k + 4);
  section = field 2 table (24 * k + 6);
  value = field 8 table (24 * k + 8);
  size = field 8 table (24 * k + 16);
}

-- the null symbol, STN_UNDEF, where the table has none of that number
abbrev pub symbol_or_null : List ℕ → ℕ → Symbol
symbol_or_null table k =
    cond (nat_lt k (length table / 24)) (symbol_of table k) (record { name = 0; info = 0; section = 0; value = 0; size = 0 })

-- in a section of the file: 0 is SHN_UNDEF, and what is special is above every section's number
abbrev pub is_in_file : ℕ → Symbol → Bool
is_in_file sections s = nat_le 1 s.section && nat_lt s.section sections

-- STT_SECTION, of a section of the file
abbrev pub is_of_section : ℕ → Symbol → Bool
is_of_section sections s = s.info % 16 == 3 && is_in_file sections s

-- STT_FUNC, in a section of the file
abbrev pub is_function : ℕ → Symbol → Bool
is_function sections s = s.info % 16 == 2 && is_in_file sections s

-- a function of that name
abbrev pub is_function_named : ℕ → List ℕ → List ℕ → Symbol → Bool
is_function_named sections strings name s = is_function sections s && is_named strings s.name name

-- the symbol of a number is a function, and isn't below another number
abbrev pub function_from : ℕ → List ℕ → ℕ → ℕ → Bool
function_from sections table from k = nat_le from k && is_function sections (symbol_of table k)
