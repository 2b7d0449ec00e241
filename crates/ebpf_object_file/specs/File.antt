-- A file whose sections are in it, and its symbol table.
use Rattle.std.specs.Prelude.{ℕ, Bool, ◌⊎◌, ◌≡◌, ◌≤◌, ◌<◌, List, Some, None}
use Rattle.ebpf_object_file.specs.declared.functions.Functions.{Functions}
use Rattle.ebpf_object_file.specs.declared.fault.FileFault.{FileFault}
use Rattle.ebpf_object_file.specs.declared.fault.FileFault.TheVariants as fault
use Rattle.ebpf_object_file.specs.declared.section.Wanted.TheVariants.{Symbols}
use Rattle.ebpf_object_file.specs.First.{NoneBelow, IsFirst, IsOnly, AreTwo}
use Rattle.ebpf_object_file.specs.Header.{header_fault, header_of}
use Rattle.ebpf_object_file.specs.Section.{section_of, sections_in, outside_in, wanted_in, bytes_of}
use Rattle.ebpf_object_file.specs.Symbol.{symbol_of, is_function, is_function_named}

-- the file is an object file whose sections are in it
pub record IsOpen (file : List ℕ) : Type 0 where
  pub header : header_fault file ≡ None
  pub inside : NoneBelow (outside_in file) (sections_in file)

-- the symbol table is the file's only one, and its strings are in one of the sections
pub record IsTable (file : List ℕ) (i : ℕ) : Type 0 where
  pub file_is : IsOpen file
  pub only : IsOnly (wanted_in file Symbols) (sections_in file) i
  pub strings : (section_of file i).link < sections_in file

-- the symbols are these bytes, and their names are in these
pub record AreSymbols (file symbols strings : List ℕ) : Type 0 where
  pub table : ℕ
  pub is : IsTable file table
  pub symbols_are : symbols ≡ bytes_of file table
  pub strings_are : strings ≡ bytes_of file (section_of file table).link

-- what a list of functions has of its file
pub record AreFunctions (file : List ℕ) (f : Functions) : Type 0 where
  pub same : f.file.now ≡ file
  pub header : f.header ≡ header_of file
  pub symbols : AreSymbols file f.symbols.now f.strings.now

-- the most bytes of a name
abbrev pub name_limit : ℕ
name_limit = 255

-- the tests of a symbol: whether it is a function, and one of that name
abbrev pub function_in : List ℕ → List ℕ → ℕ → Bool
function_in file symbols k = is_function (sections_in file) (symbol_of symbols k)

abbrev pub named_in : List ℕ → List ℕ → List ℕ → List ℕ → ℕ → Bool
named_in file symbols strings name k = is_function_named (sections_in file) strings name (symbol_of symbols k)

-- a section reaches beyond the end
abbrev pub IsContentsFault : List ℕ → FileFault → Type 0
IsContentsFault file fault.ContentsOutside = (header_fault file ≡ None) × (i : ℕ) × IsFirst (outside_in file) (sections_in file) i
IsContentsFault file _ = ⊥

-- why a file isn't open: the first fault of its header, or a section that isn't in it
abbrev pub IsOpenFault : List ℕ → FileFault → Type 0
IsOpenFault file e = (header_fault file ≡ Some e) ⊎ IsContentsFault file e

-- why a file that is open has no symbols
abbrev pub IsTableFault : List ℕ → FileFault → Type 0
IsTableFault file fault.NoSymbols = IsOpen file × NoneBelow (wanted_in file Symbols) (sections_in file)
IsTableFault file fault.SymbolsTwice = IsOpen file × AreTwo (wanted_in file Symbols) (sections_in file)
IsTableFault file fault.NoStrings =
    IsOpen file × (i : ℕ) × IsOnly (wanted_in file Symbols) (sections_in file) i × (sections_in file ≤ (section_of file i).link)
IsTableFault file _ = ⊥
