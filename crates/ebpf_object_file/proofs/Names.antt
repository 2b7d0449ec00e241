-- The name of a symbol, in the words of the definitions.
use Rattle.std.proofs.Common.{◌≡◌, ◌<◌, ℕ, List, true, arith}
use Rattle.std.proofs.lemmas.Bool.Decides.{nat_tests}
use Rattle.ebpf_object_file.specs.declared.symbol.Symbol.{Symbol}
use Rattle.ebpf_object_file.specs.Section.{sections_in}
use Rattle.ebpf_object_file.specs.Symbol.{is_of_section}
use Rattle.ebpf_object_file.specs.DataNames.{is_whole}

pub inside : (n : ℕ) (s : Symbol) → is_of_section n s ≡ true → s.section < n
inside n s e = grind (arith, nat_tests)

-- the section of a symbol that has all bytes of one
pub whole_section : (file : List ℕ) (s : Symbol) → is_whole file s ≡ true → s.section < sections_in file
whole_section file s e = grind (arith, nat_tests)
