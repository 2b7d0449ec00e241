-- The function that has given bytes.
use Rattle.std.specs.Prelude.{ℕ, Bool, List, ◌&&◌}
use Rattle.std.specs.Str.{bytes_eq}
use Rattle.ebpf_object_file.specs.declared.functions.Functions.{Functions}
use Rattle.ebpf_object_file.specs.declared.outside.Place.{Place}
use Rattle.ebpf_object_file.specs.declared.symbol.Symbol.{Symbol}
use Rattle.ebpf_object_file.specs.Function.{code_of, is_code}
use Rattle.ebpf_object_file.specs.Symbol.{symbol_of, is_function}

-- where a symbol's bytes are
abbrev pub place_of : Symbol → Place
place_of s = record { section = s.section; from = s.value; size = s.size }

-- these are its bytes, which are whole slots of its section
abbrev pub are_bytes : List ℕ → List ℕ → Symbol → Bool
are_bytes file code s = is_code file s && bytes_eq (code_of file (place_of s)) code

-- the symbol of a number is a function that has these bytes
abbrev pub has_code : Functions → List ℕ → ℕ → Bool
has_code f code k = is_function f.header.sections (symbol_of f.symbols.now k) && are_bytes f.file.now code (symbol_of f.symbols.now k)
