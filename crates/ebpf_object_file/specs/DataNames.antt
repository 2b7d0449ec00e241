-- The names of a function's data: of a section the name of the symbol that has all of its bytes, or else the section's own.
use Rattle.std.specs.Prelude.{ℕ, zero, suc, Bool, ◌≡◌, ◌<◌, ◌/◌, ◌%◌, List, length, Option, Some, None, slice_index_or, ◌==◌, ◌&&◌, cond}
use Rattle.ebpf_object_file.specs.declared.symbol.Symbol.{Symbol}
use Rattle.ebpf_object_file.specs.declared.functions.Functions.{Functions}
use Rattle.ebpf_object_file.specs.declared.data_names.DataNames.{DataNames}
use Rattle.ebpf_object_file.specs.Section.{sections_in, bytes_of}
use Rattle.ebpf_object_file.specs.Symbol.{symbol_of, is_in_file}
use Rattle.ebpf_object_file.specs.Text.{text_at}
use Rattle.ebpf_object_file.specs.File.{AreFunctions, name_limit}
use Rattle.ebpf_object_file.specs.Source.{section_name}

-- the last number below n that passes the test
unfoldable pub last_below : (ℕ → Bool) → ℕ → Option ℕ
last_below test zero = None
last_below test (suc n) = cond (test n) (Some n) (last_below test n)

-- STT_OBJECT, and its bytes are all that a section of the file has
abbrev pub is_whole : List ℕ → Symbol → Bool
is_whole file s = s.info % 16 == 1 && is_in_file (sections_in file) s && s.value == 0 && s.size == length (bytes_of file s.section)

-- those of the section of a number
abbrev pub is_whole_of : List ℕ → ℕ → Symbol → Bool
is_whole_of file i s = is_whole file s && s.section == i

-- of each section the last of the first n symbols that has all of its bytes
pub record AreWholeBelow (file symbols : List ℕ) (n : ℕ) (whole : List (Option ℕ)) : Type 0 where
  pub all : length whole ≡ sections_in file
  pub each : (i : ℕ) → i < sections_in file → slice_index_or whole i None ≡ last_below (λ k. is_whole_of file i (symbol_of symbols k)) n

abbrev pub AreWhole : (file symbols : List ℕ) → List (Option ℕ) → Type 0
AreWhole file symbols whole = AreWholeBelow file symbols (length symbols / 24) whole

-- what is kept of a file for the names
pub record AreNames (n : DataNames) : Type 0 where
  pub functions : AreFunctions n.functions.file.now n.functions
  pub whole : AreWhole n.functions.file.now n.functions.symbols.now n.whole.items

-- the name of a section, or of a symbol
abbrev pub name_by : Functions → ℕ → Option ℕ → List ℕ
name_by f i None = section_name f.file.now i
name_by f i (Some k) = text_at f.strings.now (symbol_of f.symbols.now k).name name_limit

-- the name of the data that a section is
abbrev pub data_name : Functions → ℕ → List ℕ
data_name f i = name_by f i (last_below (λ k. is_whole_of f.file.now i (symbol_of f.symbols.now k)) (length f.symbols.now / 24))
