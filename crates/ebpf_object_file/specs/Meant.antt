-- The function that is meant: the first of a name, or the file's only one where the name is empty. Its code isn't looked at.
use Rattle.std.specs.Prelude.{ℕ, ◌⊎◌, ◌≡◌, ◌≤◌, ◌<◌, ◌/◌, List, [], ◌∷◌, length}
use Rattle.ebpf_object_file.specs.declared.functions.Functions.{Functions}
use Rattle.ebpf_object_file.specs.declared.meant.Meant.{Meant}
use Rattle.ebpf_object_file.specs.declared.fault.FileFault.TheVariants as fault
use Rattle.ebpf_object_file.specs.declared.object_fault.ObjectFault.{ObjectFault}
use Rattle.ebpf_object_file.specs.declared.object_fault.ObjectFault.TheVariants as object
use Rattle.ebpf_object_file.specs.First.{NoneBelow, IsFirst, IsOnly, AreTwo}
use Rattle.ebpf_object_file.specs.File.{AreFunctions, function_in, named_in, name_limit}
use Rattle.ebpf_object_file.specs.Function.{IsFileFault}

-- the symbol of a number is the one that is meant
abbrev pub IsNumber : List ℕ → List ℕ → Functions → ℕ → Type 0
IsNumber file [] f number = IsOnly (function_in file f.symbols.now) (length f.symbols.now / 24) number
IsNumber file (c ∷ name) f number =
    (length (c ∷ name) ≤ name_limit) × IsFirst (named_in file f.symbols.now f.strings.now (c ∷ name)) (length f.symbols.now / 24) number

pub record IsMeant (file name : List ℕ) (m : Meant) : Type 0 where
  pub functions : AreFunctions file m.functions
  pub number : IsNumber file name m.functions m.number

-- the file has no function of the name, which isn't empty
abbrev pub IsUnnamed : List ℕ → List ℕ → ObjectFault → Type 0
IsUnnamed file name e =
    (f : Functions) × AreFunctions file f × (e ≡ object.NoFunction f) × NoneBelow (named_in file f.symbols.now f.strings.now name) (length f.symbols.now / 24)

-- it has no function, or more than one
abbrev pub IsNotOne : List ℕ → ObjectFault → Type 0
IsNotOne file e =
    (f : Functions) × AreFunctions file f × ((e ≡ object.File fault.NoFunctions) × NoneBelow (function_in file f.symbols.now) (length f.symbols.now / 24)
    ⊎ (e ≡ object.SeveralFunctions f) × AreTwo (function_in file f.symbols.now) (length f.symbols.now / 24))

-- why none is meant
abbrev pub IsNoneMeant : List ℕ → List ℕ → ObjectFault → Type 0
IsNoneMeant file [] e = IsFileFault file e ⊎ IsNotOne file e
IsNoneMeant file (c ∷ name) e =
    ((e ≡ object.File fault.LongName) × (name_limit < length (c ∷ name)))
    ⊎ ((length (c ∷ name) ≤ name_limit) × (IsFileFault file e ⊎ IsUnnamed file (c ∷ name) e))
