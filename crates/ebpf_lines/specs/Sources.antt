-- The lines of C of a program, by the function of an object file that has its bytes.
use Rattle.std.specs.Prelude.{ℕ, ◌⊎◌, ◌≡◌, ◌/◌, List, length, Option, Some, None}
use Rattle.ebpf_object_file.specs.declared.fault.FileFault.{FileFault}
use Rattle.ebpf_object_file.specs.declared.outside.Place.{Place}
use Rattle.ebpf_object_file.specs.Coded.{has_code, place_of}
use Rattle.ebpf_object_file.specs.File.{AreFunctions, name_limit}
use Rattle.ebpf_object_file.specs.First.{IsFirst, NoneBelow}
use Rattle.ebpf_object_file.specs.Shown.{AreHolding}
use Rattle.ebpf_object_file.specs.Source.{AreLinesOf, HasNoLinesOf, IsLinesOfFault}
use Rattle.ebpf_object_file.specs.Symbol.{symbol_of}
use Rattle.ebpf_object_file.specs.Text.{text_at}
use Rattle.ebpf_lines.specs.declared.source.ObjectFile.{ObjectFile}
use Rattle.ebpf_lines.specs.declared.source.Source.{Source}

-- what is known of a file by its bytes
pub record IsObjectFile (file : List ℕ) (o : ObjectFile) : Type 0 where
  pub same : o.file.now ≡ file
  pub functions : AreFunctions file o.functions

-- the first function of a file that has these bytes is at this place, and has this name
pub record IsCoded (o : ObjectFile) (code : List ℕ) (p : Place) (name : List ℕ) : Type 0 where
  pub number : ℕ
  pub first : IsFirst (has_code o.functions code) (length o.functions.symbols.now / 24) number
  pub at : p ≡ place_of (symbol_of o.functions.symbols.now number)
  pub name_is : name ≡ text_at o.functions.strings.now (symbol_of o.functions.symbols.now number).name name_limit

-- the file says nothing of the lines of its section, or nothing that can be read
abbrev pub HasNoLinesAt : List ℕ → Place → Type 0
HasNoLinesAt file p = HasNoLinesOf file p.section ⊎ ((e : FileFault) × IsLinesOfFault file p.section e)

-- the lines of that section, and of each of that many slots the one that holds there
pub record AreLinesAt (file : List ℕ) (slots : ℕ) (p : Place) (s : Source) : Type 0 where
  pub lines : AreLinesOf file p.section s.lines
  pub whole : length s.holding.items ≡ slots
  pub holding : AreHolding s.lines p.from s.holding.items

-- The lines of a program of these bytes: those of the first function that has them.
abbrev pub IsSourceOf : ObjectFile → List ℕ → Option Source → Type 0
IsSourceOf o code None =
    NoneBelow (has_code o.functions code) (length o.functions.symbols.now / 24)
    ⊎ ((p : Place) × (name : List ℕ) × IsCoded o code p name × HasNoLinesAt o.file.now p)
IsSourceOf o code (Some s) = (p : Place) × IsCoded o code p s.function.bytes.now × AreLinesAt o.file.now (length code / 8) p s

-- what is known of a file, if there is one
abbrev pub HasFile : Option ObjectFile → Type 0
HasFile None = Unit {0}
HasFile (Some o) = IsObjectFile o.file.now o

-- without a file a program has none
abbrev pub IsSourceIn : Option ObjectFile → List ℕ → Option Source → Type 0
IsSourceIn None code s = s ≡ None
IsSourceIn (Some o) code s = IsSourceOf o code s
