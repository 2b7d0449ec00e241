-- The functions of an object file, as C is given them.
use Rattle.std.specs.Prelude.{ℕ, ◌≡◌, ◌/◌, List, length, map, replicate}
use Rattle.ebpf_object_file.specs.declared.entry.Entry.{Entry}
use Rattle.ebpf_object_file.specs.declared.functions.Functions.{Functions}
use Rattle.ebpf_object_file.specs.declared.object_fault.ObjectFault.{ObjectFault}
use Rattle.ebpf_object_file.specs.Entries.{listed_below, symbols_in}
use Rattle.ebpf_object_file.specs.File.{AreFunctions, name_limit}
use Rattle.ebpf_object_file.specs.Function.{IsFileFault}
use Rattle.ebpf_object_file.specs.Source.{section_name}
use Rattle.ebpf_object_file.specs.Symbol.{symbol_of}
use Rattle.ebpf_object_file.specs.Text.{text_at}
use Rattle.ebpf_host.specs.Copying.{copied}
use Rattle.ebpf_host_c.specs.declared.functions.FunctionRow.{FunctionRow}
use Rattle.ebpf_host_c.specs.declared.reported.Refused.{Refused}
use Rattle.ebpf_host_c.specs.Objects.{IsFaultReported}

-- a name, which has at most 255 bytes, and zeros after it
abbrev pub ended : List ℕ → List ℕ
ended name = copied name (replicate 256 0)

abbrev pub row : (name section : List ℕ) → (slots : ℕ) → FunctionRow
row name section slots = record { name = ended name; section = ended section; slots = slots }

abbrev pub row_of : Entry → FunctionRow
row_of e = row e.name.bytes.now e.section.bytes.now e.slots

-- that of the function that is the symbol of a number
abbrev pub row_at : Functions → ℕ → FunctionRow
row_at f k = row (text_at f.strings.now (symbol_of f.symbols.now k).name name_limit)
    (section_name f.file.now (symbol_of f.symbols.now k).section) ((symbol_of f.symbols.now k).size / 8)

-- those among the first n symbols, and all
abbrev pub rows_below : Functions → ℕ → List FunctionRow
rows_below f n = map (row_at f) (listed_below f n)

abbrev pub rows_of : Functions → List FunctionRow
rows_of f = rows_below f (symbols_in f)

-- as many of the functions of the file are written as there is room for, and how many it has
pub record AreGiven (file : List ℕ) (room rows : List FunctionRow) (count : ℕ) : Type 0 where
  pub functions : Functions
  pub are : AreFunctions file functions
  pub rows_are : rows ≡ copied (rows_of functions) room
  pub count_is : count ≡ length (rows_of functions)

-- the file has a fault, whatever function is asked for
abbrev pub HasFileFault : List ℕ → Type 0
HasFileFault file = (e : ObjectFault) × IsFileFault file e

-- which C is given
abbrev pub IsFileRefused : (file room text : List ℕ) → Refused → Type 0
IsFileRefused file room text filled = (e : ObjectFault) × IsFileFault file e × IsFaultReported file e room text filled
