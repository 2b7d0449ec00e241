-- The functions of a file as a list: the symbols that are functions, in the order of the table.
use Rattle.std.specs.Prelude.{ℕ, Bool, ◌≡◌, ◌/◌, true, false, List, length, filter, Option, Some, None}
use Rattle.std.specs.List.{range_with_len}
use Rattle.ebpf_object_file.specs.declared.entry.Entry.{Entry}
use Rattle.ebpf_object_file.specs.declared.functions.Functions.{Functions}
use Rattle.ebpf_object_file.specs.Symbol.{symbol_of, is_function}
use Rattle.ebpf_object_file.specs.Text.{text_at}
use Rattle.ebpf_object_file.specs.File.{name_limit}
use Rattle.ebpf_object_file.specs.Source.{section_name}

-- how many symbols the table has
abbrev pub symbols_in : Functions → ℕ
symbols_in f = length f.symbols.now / 24

-- the symbol of a number is a function
abbrev pub is_listed : Functions → ℕ → Bool
is_listed f k = is_function f.header.sections (symbol_of f.symbols.now k)

-- the numbers of those of the first n symbols that are functions
abbrev pub listed_below : Functions → ℕ → List ℕ
listed_below f n = filter (is_listed f) (range_with_len 0 n)

-- what a list says of the function that is the symbol of a number
pub record IsEntry (f : Functions) (number : ℕ) (e : Entry) : Type 0 where
  pub name : e.name.bytes.now ≡ text_at f.strings.now (symbol_of f.symbols.now number).name name_limit
  pub section : e.section.bytes.now ≡ section_name f.file.now (symbol_of f.symbols.now number).section
  pub slots : e.slots ≡ (symbol_of f.symbols.now number).size / 8

-- that, or the symbol is no function
abbrev pub IsEntryAt : Functions → ℕ → Option Entry → Type 0
IsEntryAt f number None = is_listed f number ≡ false
IsEntryAt f number (Some e) = (is_listed f number ≡ true) × IsEntry f number e
