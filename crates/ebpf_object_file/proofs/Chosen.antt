-- The function that is meant, in the words of the definitions.
use Rattle.std.proofs.Common.{◌≡◌, ◌≤◌, ◌+◌, ◌/◌, ℕ, Bool, false, true, ◌&&◌, ◌==◌, List, [], ◌∷◌, length, Result, Ok, Err, ap, subst, arith, inl, inr}
use Rattle.std.specs.Prelude.{nat_le, IfOk, IfErr}
use Rattle.std.proofs.lemmas.Result.{IfOk-weaker}
use Rattle.std.proofs.lemmas.Bool.{cases_lt}
use Rattle.std.proofs.lemmas.Bool.Decides.{nat_tests}
use Rattle.ebpf_object_file.specs.declared.header.Header.{Header}
use Rattle.ebpf_object_file.specs.declared.functions.Functions.{Functions}
use Rattle.ebpf_object_file.specs.declared.function.Function.{Function}
use Rattle.ebpf_object_file.specs.declared.object_fault.ObjectFault.{ObjectFault}
use Rattle.ebpf_object_file.specs.First.{NoneBelow, IsFirst, IsOnly, AreTwo}
use Rattle.ebpf_object_file.specs.Section.{sections_in}
use Rattle.ebpf_object_file.specs.Symbol.{symbol_of, is_function, function_from}
use Rattle.ebpf_object_file.specs.File.{AreFunctions, function_in, named_in, name_limit}
use Rattle.ebpf_object_file.specs.Function.{IsAt, IsAlone, IsNamed, IsOnlyOne, IsFunctionFault, IsNamedFault, IsOnlyFault, IsWantedFault}

-- what holds of an error holds of it in other words
pub err_more : {T E : Type 0} (r : Result T E) (P Q : E → Type 0) → ((e : E) → P e → Q e) → IfErr r P → IfErr r Q
err_more (Ok x) P Q more h = h
err_more (Err e) P Q more h = more e h

-- as many sections as the file has
pub count_of : (file : List ℕ) (f : Functions) → AreFunctions file f → f.header.sections ≡ sections_in file
count_of file f are = ap (λ (h : Header). h.sections) are.header

from_true : (a b : ℕ) (x : Bool) → (nat_le a b && x) ≡ true → x ≡ true
from_true a b x e = grind (arith, nat_tests)

from_false : (a b : ℕ) (x : Bool) → a ≤ b → (nat_le a b && x) ≡ false → x ≡ false
from_false a b x le e = grind (arith, nat_tests)

-- a search of functions in as many sections as the file has
none_in : (file symbols : List ℕ) (n m : ℕ) → n ≡ sections_in file → NoneBelow (function_from n symbols 0) m → NoneBelow (function_in file symbols) m
none_in file symbols n m same none k lt = subst (λ (x : ℕ). is_function x (symbol_of symbols k) ≡ false) same (from_false 0 k _ (omega arith) (none k lt))

-- none is before the first, and none is after it
only_in : (file symbols : List ℕ) (n m first : ℕ) → n ≡ sections_in file → IsFirst (function_from n symbols 0) m first
    → NoneBelow (function_from n symbols (first + 1)) m → IsOnly (function_in file symbols) m first
only_in file symbols n m first same is none = record {
  inside = is.inside;
  here = subst (λ (x : ℕ). is_function x (symbol_of symbols first) ≡ true) same (from_true 0 first _ is.here);
  other = λ k lt apart. subst (λ (x : ℕ). is_function x (symbol_of symbols k) ≡ false) same (elim (cases_lt k first) [
    | inl below ↦ from_false 0 k _ (omega arith) (is.before k below)
    | inr above ↦ from_false (first + 1) k _ (omega (arith, above, apart)) (none k lt)
  ]);
}

two_in : (file symbols : List ℕ) (n m first second : ℕ) → n ≡ sections_in file → IsFirst (function_from n symbols 0) m first
    → IsFirst (function_from n symbols (first + 1)) m second → AreTwo (function_in file symbols) m
two_in file symbols n m first second same one two = record {
  one = first;
  two = second;
  apart = let above : first + 1 ≤ second = after (first + 1) second _ two.here in omega (arith, above);
  inside = two.inside;
  first = subst (λ (x : ℕ). is_function x (symbol_of symbols first) ≡ true) same (from_true 0 first _ one.here);
  second = subst (λ (x : ℕ). is_function x (symbol_of symbols second) ≡ true) same (from_true (first + 1) second _ two.here);
} where
  after : (a b : ℕ) (x : Bool) → (nat_le a b && x) ≡ true → a ≤ b
  after a b x e = grind (arith, nat_tests)

-- what is read of the bytes that the functions keep is so of the file
of_file : (file : List ℕ) (f : Functions) (number : ℕ) (g : Function) → AreFunctions file f → IsAt f.file.now f.symbols.now number g × IsAlone f.file.now g
    → IsAt file f.symbols.now number g × IsAlone file g
of_file file f number g are there =
    (subst (λ (x : List ℕ). IsAt x f.symbols.now number g) are.same there.0, subst (λ (x : List ℕ). IsAlone x g) are.same there.1)

-- the function of a name, and why it is none
pub named_found : (file name : List ℕ) (f : Functions) (number : ℕ) (r : Result Function ObjectFault) → AreFunctions file f
    → IsFirst (named_in file f.symbols.now f.strings.now name) (length f.symbols.now / 24) number
    → IfOk r (λ g. IsAt f.file.now f.symbols.now number g × IsAlone f.file.now g) → IfOk r (λ g. IsNamed file name g × IsAlone file g)
named_found file name f number r are first h =
    IfOk-weaker r (λ g. IsAt f.file.now f.symbols.now number g × IsAlone f.file.now g) (λ g. IsNamed file name g × IsAlone file g) (λ g there.
    let own = of_file file f number g are there in
    (record { symbols = f.symbols.now; strings = f.strings.now; are = are.symbols; number = number; first = first; at = own.0 }, own.1)) h

pub named_refused : (file name : List ℕ) (f : Functions) (number : ℕ) (r : Result Function ObjectFault) → AreFunctions file f → length name ≤ name_limit
    → IsFirst (named_in file f.symbols.now f.strings.now name) (length f.symbols.now / 24) number
    → IfErr r (λ e. IsFunctionFault f number e) → IfErr r (λ e. IsNamedFault file name e)
named_refused file name f number r are short first h =
    err_more r (λ e. IsFunctionFault f number e) (λ e. IsNamedFault file name e) (λ e there. inr (short, inr (f, are, inr (number, first, there)))) h

-- the only function, and why it is none
pub no_functions : (file : List ℕ) (f : Functions) → AreFunctions file f
    → NoneBelow (function_from f.header.sections f.symbols.now 0) (length f.symbols.now / 24)
    → NoneBelow (function_in file f.symbols.now) (length f.symbols.now / 24)
no_functions file f are none = none_in file f.symbols.now f.header.sections (length f.symbols.now / 24) (count_of file f are) none

pub is_only : (file : List ℕ) (f : Functions) (first : ℕ) → AreFunctions file f
    → IsFirst (function_from f.header.sections f.symbols.now 0) (length f.symbols.now / 24) first
    → NoneBelow (function_from f.header.sections f.symbols.now (first + 1)) (length f.symbols.now / 24)
    → IsOnly (function_in file f.symbols.now) (length f.symbols.now / 24) first
is_only file f first are is none = only_in file f.symbols.now f.header.sections (length f.symbols.now / 24) first (count_of file f are) is none

pub are_two : (file : List ℕ) (f : Functions) (first second : ℕ) → AreFunctions file f
    → IsFirst (function_from f.header.sections f.symbols.now 0) (length f.symbols.now / 24) first
    → IsFirst (function_from f.header.sections f.symbols.now (first + 1)) (length f.symbols.now / 24) second
    → AreTwo (function_in file f.symbols.now) (length f.symbols.now / 24)
are_two file f first second are one two = two_in file f.symbols.now f.header.sections (length f.symbols.now / 24) first second (count_of file f are) one two

pub only_found : (file : List ℕ) (f : Functions) (number : ℕ) (r : Result Function ObjectFault) → AreFunctions file f
    → IsOnly (function_in file f.symbols.now) (length f.symbols.now / 24) number
    → IfOk r (λ g. IsAt f.file.now f.symbols.now number g × IsAlone f.file.now g) → IfOk r (λ g. IsOnlyOne file g × IsAlone file g)
only_found file f number r are only h =
    IfOk-weaker r (λ g. IsAt f.file.now f.symbols.now number g × IsAlone f.file.now g) (λ g. IsOnlyOne file g × IsAlone file g) (λ g there.
    let own = of_file file f number g are there in
    (record { symbols = f.symbols.now; strings = f.strings.now; are = are.symbols; number = number; only = only; at = own.0 }, own.1)) h

pub only_refused : (file : List ℕ) (f : Functions) (number : ℕ) (r : Result Function ObjectFault) → AreFunctions file f
    → IsOnly (function_in file f.symbols.now) (length f.symbols.now / 24) number
    → IfErr r (λ e. IsFunctionFault f number e) → IfErr r (λ e. IsOnlyFault file e)
only_refused file f number r are only h =
    err_more r (λ e. IsFunctionFault f number e) (λ e. IsOnlyFault file e) (λ e there. inr (f, are, inr (inr (number, only, there)))) h

-- why a name that is not empty has no function
pub wanted_refused : {A : Type 0} (r : Result A ObjectFault) (file name : List ℕ) → false ≡ (length name == 0)
    → IfErr r (λ e. IsNamedFault file name e) → IfErr r (λ e. IsWantedFault file name e)
wanted_refused r file [] some h = absurd cc
wanted_refused r file (c ∷ name) some h = h
