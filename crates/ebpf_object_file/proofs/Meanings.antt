-- The function that a name means, where the name isn't empty.
use Rattle.std.proofs.Common.{true, sym, subst, ◌≡◌, ◌≢◌, ◌≤◌, ◌<◌, ◌/◌, ◌⊎◌, ℕ, List, [], ◌∷◌, length, refl, inl, inr}
use Rattle.ebpf_object_file.specs.declared.functions.Functions.{Functions}
use Rattle.ebpf_object_file.specs.declared.meant.Meant.{Meant}
use Rattle.ebpf_object_file.specs.declared.fault.FileFault.TheVariants as fault
use Rattle.ebpf_object_file.specs.declared.object_fault.ObjectFault.{ObjectFault}
use Rattle.ebpf_object_file.specs.declared.object_fault.ObjectFault.TheVariants as object
use Rattle.ebpf_object_file.specs.First.{IsFirst}
use Rattle.ebpf_object_file.specs.File.{AreFunctions, function_in, named_in, name_limit}
use Rattle.ebpf_object_file.specs.Symbol.{symbol_of, is_function}
use Rattle.ebpf_object_file.proofs.Objects.{both}
use Rattle.ebpf_object_file.proofs.Chosen.{count_of}
use Rattle.ebpf_object_file.specs.Function.{IsFileFault}
use Rattle.ebpf_object_file.specs.Meant.{IsNumber, IsMeant, IsUnnamed, IsNoneMeant}

pub long_name : (file name : List ℕ) → name ≢ [] → name_limit < length name → IsNoneMeant file name (object.File fault.LongName)
long_name file [] some long = absurd (some refl)
long_name file (c ∷ name) some long = inl (refl, long)

pub other_name : (file name : List ℕ) (e : ObjectFault) → name ≢ [] → length name ≤ name_limit → IsFileFault file e ⊎ IsUnnamed file name e
    → IsNoneMeant file name e
other_name file [] e some short why = absurd (some refl)
other_name file (c ∷ name) e some short why = inr (short, why)

pub named_number : (file name : List ℕ) (f : Functions) (number : ℕ) → name ≢ [] → length name ≤ name_limit
    → IsFirst (named_in file f.symbols.now f.strings.now name) (length f.symbols.now / 24) number → IsNumber file name f number
named_number file [] f number some short first = absurd (some refl)
named_number file (c ∷ name) f number some short first = (short, first)

-- what is meant is a function of the symbol table
function_at : (file name : List ℕ) (f : Functions) (number : ℕ) → IsNumber file name f number → function_in file f.symbols.now number ≡ true
function_at file [] f number only = only.here
function_at file (c ∷ name) f number first = (both _ _ first.1.here).0

pub meant_function : (file name : List ℕ) (m : Meant) → IsMeant file name m → is_function m.functions.header.sections (symbol_of m.functions.symbols.now m.number) ≡ true
meant_function file name m is =
    subst (λ (n : ℕ). is_function n (symbol_of m.functions.symbols.now m.number) ≡ true) (sym (count_of file m.functions is.functions))
    (function_at file name m.functions m.number is.number)

number_below : (file name : List ℕ) (f : Functions) (number : ℕ) → IsNumber file name f number → number < length f.symbols.now / 24
number_below file [] f number only = only.inside
number_below file (c ∷ name) f number first = first.1.inside

pub meant_inside : (file name : List ℕ) (m : Meant) → IsMeant file name m → m.number < length m.functions.symbols.now / 24
meant_inside file name m is = number_below file name m.functions m.number is.number

-- what is said of the file is said of the bytes that are kept
pub own_functions : (file : List ℕ) (f : Functions) → AreFunctions file f → AreFunctions f.file.now f
own_functions file f are = subst (λ (x : List ℕ). AreFunctions x f) (sym are.same) are
