-- A function that is a program by itself, and why a file has none.
use Rattle.std.specs.Prelude.{ℕ, Bool, ◌⊎◌, ◌≡◌, ◌≤◌, ◌<◌, ◌+◌, ◌/◌, ◌%◌, true, false, List, [], ◌∷◌, length, take, drop, ◌==◌, ◌&&◌, nat_le}
use Rattle.ebpf_object_file.specs.declared.symbol.Symbol.{Symbol}
use Rattle.ebpf_object_file.specs.declared.outside.Place.{Place}
use Rattle.ebpf_object_file.specs.declared.outside.Outside.{Outside}
use Rattle.ebpf_object_file.specs.declared.functions.Functions.{Functions}
use Rattle.ebpf_object_file.specs.declared.function.Function.{Function}
use Rattle.ebpf_object_file.specs.declared.fault.FileFault.{FileFault}
use Rattle.ebpf_object_file.specs.declared.fault.FileFault.TheVariants as fault
use Rattle.ebpf_object_file.specs.declared.object_fault.ObjectFault.{ObjectFault}
use Rattle.ebpf_object_file.specs.declared.object_fault.ObjectFault.TheVariants as object
use Rattle.ebpf_object_file.specs.First.{NoneBelow, IsFirst, IsOnly, AreTwo}
use Rattle.ebpf_object_file.specs.Section.{bytes_of}
use Rattle.ebpf_object_file.specs.Symbol.{symbol_of}
use Rattle.ebpf_object_file.specs.Call.{is_call}
use Rattle.ebpf_object_file.specs.File.{AreSymbols, AreFunctions, IsOpenFault, IsTableFault, function_in, named_in, name_limit}
use Rattle.ebpf_object_file.specs.Outside.{HasNone, IsRelocationFault, IsRelocated, IsCalling}

-- a symbol's bytes are whole slots of its section, one at least
abbrev pub is_code : List ℕ → Symbol → Bool
is_code file s =
    nat_le (s.value + s.size) (length (bytes_of file s.section)) && s.value % 8 == 0 && s.size % 8 == 0 && nat_le 1 s.size

-- the bytes of a place
abbrev pub code_of : List ℕ → Place → List ℕ
code_of file p = take p.size (drop p.from (bytes_of file p.section))

-- the place of the function that is the symbol of a number
pub record IsPlace (file symbols : List ℕ) (number : ℕ) (p : Place) : Type 0 where
  pub code : is_code file (symbol_of symbols number) ≡ true
  pub section : p.section ≡ (symbol_of symbols number).section
  pub from : p.from ≡ (symbol_of symbols number).value
  pub size : p.size ≡ (symbol_of symbols number).size

-- its place and its bytes
pub record IsAt (file symbols : List ℕ) (number : ℕ) (f : Function) : Type 0 where
  pub place : IsPlace file symbols number f.place
  pub code : f.code.now ≡ code_of file f.place

-- The function is a program by itself: no relocation reaches it, and it calls no function of the file.
pub record IsAlone (file : List ℕ) (f : Function) : Type 0 where
  pub relocations : HasNone file f.place
  pub calls : NoneBelow (is_call f.code.now) (length f.code.now / 8)

-- The function of a name: the first of the symbol table that has it.
pub record IsNamed (file name : List ℕ) (f : Function) : Type 0 where
  pub symbols : List ℕ
  pub strings : List ℕ
  pub are : AreSymbols file symbols strings
  pub number : ℕ
  pub first : IsFirst (named_in file symbols strings name) (length symbols / 24) number
  pub at : IsAt file symbols number f

-- The only function of the symbol table.
pub record IsOnlyOne (file : List ℕ) (f : Function) : Type 0 where
  pub symbols : List ℕ
  pub strings : List ℕ
  pub are : AreSymbols file symbols strings
  pub number : ℕ
  pub only : IsOnly (function_in file symbols) (length symbols / 24) number
  pub at : IsAt file symbols number f

-- why a symbol's bytes aren't read
abbrev pub IsCodeFault : List ℕ → List ℕ → ℕ → FileFault → Type 0
IsCodeFault file symbols number e = (e ≡ fault.NotCode) × (is_code file (symbol_of symbols number) ≡ false)

-- the part that a place needs: that of its first relocation, else that of its first call
abbrev pub IsNeeded : Functions → Place → Outside → Type 0
IsNeeded f p o = IsRelocated f.file.now f.symbols.now f.strings.now p o
    ⊎ HasNone f.file.now p × IsCalling f.symbols.now f.strings.now f.header.sections p (code_of f.file.now p) o

-- why the function that is the symbol of a number is no program by itself
abbrev pub IsFunctionFault : Functions → ℕ → ObjectFault → Type 0
IsFunctionFault f number e =
    ((x : FileFault) × (e ≡ object.File x) × IsCodeFault f.file.now f.symbols.now number x)
    ⊎ ((p : Place) × IsPlace f.file.now f.symbols.now number p
    × (((x : FileFault) × (e ≡ object.File x) × IsRelocationFault f.file.now p x) ⊎ ((o : Outside) × (e ≡ object.Outside o) × IsNeeded f p o)))

-- why the file has no functions
abbrev pub IsFileFault : List ℕ → ObjectFault → Type 0
IsFileFault file e = (x : FileFault) × (e ≡ object.File x) × (IsOpenFault file x ⊎ IsTableFault file x)

-- why it has no program of the name
abbrev pub IsNamedFault : List ℕ → List ℕ → ObjectFault → Type 0
IsNamedFault file name e =
    ((e ≡ object.File fault.LongName) × (name_limit < length name))
    ⊎ ((length name ≤ name_limit) × (IsFileFault file e
    ⊎ ((f : Functions) × AreFunctions file f
    × ((e ≡ object.NoFunction f) × NoneBelow (named_in file f.symbols.now f.strings.now name) (length f.symbols.now / 24)
    ⊎ ((number : ℕ) × IsFirst (named_in file f.symbols.now f.strings.now name) (length f.symbols.now / 24) number × IsFunctionFault f number e)))))

-- why it has no only one
abbrev pub IsOnlyFault : List ℕ → ObjectFault → Type 0
IsOnlyFault file e =
    IsFileFault file e
    ⊎ ((f : Functions) × AreFunctions file f
    × ((e ≡ object.File fault.NoFunctions) × NoneBelow (function_in file f.symbols.now) (length f.symbols.now / 24)
    ⊎ (e ≡ object.SeveralFunctions f) × AreTwo (function_in file f.symbols.now) (length f.symbols.now / 24)
    ⊎ ((number : ℕ) × IsOnly (function_in file f.symbols.now) (length f.symbols.now / 24) number × IsFunctionFault f number e)))

-- the function of a name, or where the name is empty the file's only one, and it is a program by itself
abbrev pub IsWanted : List ℕ → List ℕ → Function → Type 0
IsWanted file [] f = IsOnlyOne file f × IsAlone file f
IsWanted file (c ∷ name) f = IsNamed file (c ∷ name) f × IsAlone file f

-- why there is none
abbrev pub IsWantedFault : List ℕ → List ℕ → ObjectFault → Type 0
IsWantedFault file [] e = IsOnlyFault file e
IsWantedFault file (c ∷ name) e = IsNamedFault file (c ∷ name) e
