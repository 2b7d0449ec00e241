-- What the searches found, in the words of the definitions.
use Rattle.std.proofs.Common.{◌≡◌, ◌<◌, ◌≤◌, ◌+◌, ◌/◌, ℕ, Bool, false, true, List, [], ◌∷◌, length, take, drop, cond, Option, sym, ap, subst, ◌∙◌}
use Rattle.std.proofs.Common.{arith, inl, inr}
use Rattle.std.proofs.lemmas.List.{length-take, length-drop}
use Rattle.std.proofs.lemmas.Bool.Decides.{eqb_tells, nat_tests}
use Rattle.ebpf_object_file.specs.declared.header.Header.{Header}
use Rattle.ebpf_object_file.specs.declared.symbol.Symbol.{Symbol}
use Rattle.ebpf_object_file.specs.declared.relocation.Relocation.{Relocation}
use Rattle.ebpf_object_file.specs.declared.outside.Place.{Place}
use Rattle.ebpf_object_file.specs.declared.function.Function.{Function}
use Rattle.ebpf_object_file.specs.declared.section.Wanted.TheVariants.{RelocationsFor}
use Rattle.ebpf_object_file.specs.Header.{header_of}
use Rattle.ebpf_object_file.specs.First.{NoneBelow, IsFirst, Finds}
use Rattle.ebpf_object_file.specs.Section.{section_of, sections_in, wanted_in, has_no_bytes, bytes_of}
use Rattle.ebpf_object_file.specs.Symbol.{symbol_of, is_function, is_function_named}
use Rattle.ebpf_object_file.specs.Relocation.{relocation_of, reaches}
use Rattle.ebpf_object_file.specs.File.{named_in}
use Rattle.ebpf_object_file.specs.Outside.{IsReached, AreRelocations, IsReachedFirst}
use Rattle.ebpf_object_file.specs.declared.data_function.DataFunction.{DataFunction}
use Rattle.ebpf_object_file.specs.DataFunction.{IsDataFunction}
use Rattle.ebpf_object_file.specs.Function.{code_of, IsPlace, IsWanted}

true_false : (b : Bool) → b ≡ true → b ≡ false → ⊥
true_false true t f = absurd (cc)
true_false false t f = absurd (cc)

-- a function is in one of the sections
pub section_inside : (n : ℕ) (s : Symbol) → is_function n s ≡ true → s.section < n
section_inside n s e = grind (arith, nat_tests)

-- the same, of a symbol that was read
pub symbol_inside : (file : List ℕ) (h : Header) (s read : Symbol) → h ≡ header_of file → read ≡ s → is_function h.sections s ≡ true
    → read.section < sections_in file
symbol_inside file h s read same is function =
    let count : h.sections ≡ sections_in file = ap (λ (x : Header). x.sections) same in
    subst (λ (n : ℕ). read.section < n) count (subst (λ (x : Symbol). x.section < h.sections) (sym is) (section_inside h.sections s function))

-- a search in as many sections as the file has is one in the file
pub found_named : (file symbols strings name : List ℕ) (n m : ℕ) (r : Option ℕ) → n ≡ sections_in file
    → Finds (λ k. is_function_named n strings name (symbol_of symbols k)) m r → Finds (named_in file symbols strings name) m r
found_named file symbols strings name n m r e found =
    subst (λ (x : ℕ). Finds (λ k. is_function_named x strings name (symbol_of symbols k)) m r) e found

-- no section has relocations for the place's
pub none_wanted : (file : List ℕ) (p : Place) → NoneBelow (wanted_in file (RelocationsFor p.section)) (sections_in file)
    → (r : Relocation) → IsReached file p r → ⊥
none_wanted file p none r h = true_false (wanted_in file (RelocationsFor p.section) h.table) h.wanted (none h.table h.inside)

reaches_none : (file : List ℕ) (p : Place) (r : Relocation) (h : IsReached file p r)
    → NoneBelow (λ k. reaches p.from p.size (relocation_of (bytes_of file h.table) k)) (length (bytes_of file h.table) / 16) → ⊥
reaches_none file p r h none =
    true_false (reaches p.from p.size (relocation_of (bytes_of file h.table) h.entry))
    (subst (λ (x : Relocation). reaches p.from p.size x ≡ true) h.is h.reaches) (none h.entry h.there)

-- none of the relocations for its section reaches it
pub none_reaching : (file : List ℕ) (p : Place) (table : List ℕ) → AreRelocations file p table
    → NoneBelow (λ k. reaches p.from p.size (relocation_of table k)) (length table / 16) → (r : Relocation) → IsReached file p r → ⊥
none_reaching file p table are none r h = elim are.are [
  | inl empty_table ↦ none_wanted file p empty_table.0 r h
  | inr one ↦ elim (eqb_tells h.table one.0) [
    | inl e ↦ reaches_none file p r h (subst (λ (x : List ℕ). NoneBelow (λ k. reaches p.from p.size (relocation_of x k)) (length x / 16))
        (one.2 ∙ ap (λ (t : ℕ). bytes_of file t) (sym e.1)) none)
    | inr e ↦ true_false (wanted_in file (RelocationsFor p.section) h.table) h.wanted (one.1.other h.table h.inside e.1)
  ]
]

-- the first that reaches it
pub is_reached_first : (file : List ℕ) (p : Place) (k : ℕ) (table : List ℕ) (r : Relocation) → AreRelocations file p table
    → IsFirst (λ k. reaches p.from p.size (relocation_of table k)) (length table / 16) k → r ≡ relocation_of table k → IsReachedFirst file p r
is_reached_first file p k table r are first is = elim are.are [
  | inl empty_table ↦ let empty : length table ≡ 0 = ap length empty_table.1 in
      let inside : k < length table / 16 = first.inside in absurd (omega (arith, empty, inside))
  | inr one ↦ record {
    no_addends = are.no_addends;
    table = one.0;
    only = one.1;
    entry = k;
    first = subst (λ (x : List ℕ). IsFirst (λ (j : ℕ). reaches p.from p.size (relocation_of x j)) (length x / 16) k) one.2 first;
    is = is ∙ ap (λ (x : List ℕ). relocation_of x k) one.2;
  }
]

-- the section of a place is in the file
pub place_section : (file symbols : List ℕ) (number : ℕ) (p : Place) (h : Header) → h ≡ header_of file
    → is_function h.sections (symbol_of symbols number) ≡ true → IsPlace file symbols number p → p.section < sections_in file
place_section file symbols number p h same function is =
    let count : h.sections ≡ sections_in file = ap (λ (x : Header). x.sections) same in
    subst (λ (n : ℕ). p.section < n) count (subst (λ (n : ℕ). n < h.sections) (sym is.section) (section_inside h.sections (symbol_of symbols number) function))

-- a section's bytes are no more than the file's
contents_within : (file : List ℕ) (none : Bool) (offset size : ℕ) → length (cond none [] (take size (drop offset file))) ≤ length file
contents_within file true offset size = omega arith
contents_within file false offset size = rw (length-take size (drop offset file), length-drop offset file) omega arith

taken_within : (n : ℕ) (l : List ℕ) → length (take n l) ≤ n
taken_within n l = rw (length-take n l) omega arith

inside_by : (from size value room code bytes file : ℕ) → from ≡ value → size ≡ room → code ≤ size → value + room ≤ bytes → bytes ≤ file → from + code ≤ file
inside_by from size value room code bytes file a b c d e = omega arith

begins_within : (from code file : ℕ) → from + code ≤ file → from ≤ file
begins_within from code file inside = omega arith

-- the bytes of a place are in the file
pub place_within : (file symbols : List ℕ) (number : ℕ) (p : Place) (code : List ℕ) → IsPlace file symbols number p → code ≡ code_of file p
    → p.from + length code ≤ length file
place_within file symbols number p code is same =
    let s = symbol_of symbols number in
    let section = section_of file s.section in
    let inside : s.value + s.size ≤ length (bytes_of file s.section) = grind (arith, nat_tests) in
    let short : length code ≤ p.size = subst (λ (x : List ℕ). length x ≤ p.size) (sym same) (taken_within p.size _) in
    inside_by p.from p.size s.value s.size (length code) (length (bytes_of file s.section)) (length file) is.from is.size short inside
    (contents_within file (has_no_bytes section) section.offset section.size)

-- the function that is wanted begins in the file
pub wanted_within : (file name : List ℕ) (f : Function) → IsWanted file name f → f.place.from ≤ length file
wanted_within file [] f is = begins_within _ _ _ (place_within file is.0.symbols is.0.number f.place f.code.now is.0.at.place is.0.at.code)
wanted_within file (c ∷ name) f is = begins_within _ _ _ (place_within file is.0.symbols is.0.number f.place f.code.now is.0.at.place is.0.at.code)

-- the same of a function with its data
pub data_within : (file name : List ℕ) (d : DataFunction) → IsDataFunction file name d → d.function.place.from ≤ length file
data_within file name d is = begins_within _ _ _
    (place_within file is.meant.functions.symbols.now is.meant.number d.function.place d.function.code.now is.at.place is.at.code)
