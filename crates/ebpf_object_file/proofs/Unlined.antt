-- Where a file without .BTF or without .BTF.ext has the function that is wanted, it has no lines, and they have no fault.
use Rattle.std.proofs.Common.{◌<◌, ℕ, List, [], ◌∷◌, refl, inl, inr, arith}
use Rattle.ebpf_object_file.specs.declared.fault.FileFault.{FileFault}
use Rattle.ebpf_object_file.specs.declared.fault.FileFault.TheVariants as fault
use Rattle.ebpf_object_file.specs.declared.function.Function.{Function}
use Rattle.ebpf_object_file.specs.declared.lines.Lines.{Lines}
use Rattle.ebpf_object_file.specs.File.{IsOpen, IsOpenFault, IsContentsFault}
use Rattle.ebpf_object_file.specs.First.{IsFirst}
use Rattle.ebpf_object_file.specs.Function.{IsWanted}
use Rattle.ebpf_object_file.specs.Header.{header_of}
use Rattle.ebpf_object_file.specs.Section.{sections_in, outside_in}
use Rattle.ebpf_object_file.specs.Source.{AreLinesOf, HasNoTables, HasTables, IsLinesOfFault}
use Rattle.ebpf_object_file.proofs.Objects.{both}
use Rattle.ebpf_object_file.proofs.Places.{place_section}

no_tables : (file : List ℕ) (section btf ext : ℕ) → HasNoTables file → HasTables file section btf ext → ⊥
no_tables file section btf ext (inl none) are = let without = none btf are.btf_is.inside in let here = are.btf_is.here in absurd (cc)
no_tables file section btf ext (inr none) are = let without = none ext are.ext_is.inside in let here = are.ext_is.here in absurd (cc)

wanted_open : (file name : List ℕ) (f : Function) → IsWanted file name f → IsOpen file
wanted_open file [] f is = is.0.are.is.file_is
wanted_open file (c ∷ name) f is = is.0.are.is.file_is

wanted_section : (file name : List ℕ) (f : Function) → IsWanted file name f → f.place.section < sections_in file
wanted_section file [] f is = place_section file is.0.symbols is.0.number f.place (header_of file) refl is.0.only.here is.0.at.place
wanted_section file (c ∷ name) f is =
    place_section file is.0.symbols is.0.number f.place (header_of file) refl (both _ _ is.0.first.here).0 is.0.at.place

contents_first : (file : List ℕ) (e : FileFault) → IsContentsFault file e → (i : ℕ) × IsFirst (outside_in file) (sections_in file) i
contents_first file fault.ContentsOutside h = (h.1, h.2)
contents_first file _ h = absurd h

open_without_fault : (file : List ℕ) (e : FileFault) → IsOpen file → IsOpenFault file e → ⊥
open_without_fault file e is (inl h) = let none = is.header in absurd (cc (none, h))
open_without_fault file e is (inr h) =
    let first = contents_first file e h in let without = is.inside first.0 first.1.inside in let here = first.1.here in absurd (cc (without, here))

pub no_lines : (file : List ℕ) (section : ℕ) (l : Lines) → HasNoTables file → AreLinesOf file section l → ⊥
no_lines file section l none are = no_tables file section are.btf are.ext none are.tables

pub no_fault_of_lines : (file name : List ℕ) (f : Function) (e : FileFault) → IsWanted file name f → HasNoTables file
    → IsLinesOfFault file f.place.section e → ⊥
no_fault_of_lines file name f e is none (inl h) = open_without_fault file e (wanted_open file name f is) h
no_fault_of_lines file name f e is none (inr (inl h)) =
    let inside = wanted_section file name f is in let beyond = h.2 in absurd (omega (arith, inside, beyond))
no_fault_of_lines file name f e is none (inr (inr h)) = no_tables file f.place.section h.0 h.1 none h.2
