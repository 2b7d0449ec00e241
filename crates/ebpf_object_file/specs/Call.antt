-- Calls of functions of the file by their place (RFC 9669, section 4.3.2: program-local functions): the immediate is the number of
-- slots from the next one to the function's first.
use Rattle.std.specs.Prelude.{ℕ, Bool, ◌+◌, ◌*◌, ◌/◌, ◌%◌, ◌^◌, List, slice_index, ◌==◌, ◌&&◌}
use Rattle.ebpf_object_file.specs.declared.symbol.Symbol.{Symbol}
use Rattle.ebpf_object_file.specs.Field.{field}
use Rattle.ebpf_object_file.specs.Symbol.{is_function}

-- opcode 133, BPF_CALL, with source 1
abbrev pub is_call : List ℕ → ℕ → Bool
is_call code k = slice_index code (8 * k) == 133 && slice_index code (8 * k + 1) / 16 == 1

-- Where the call leads to, for a function that begins at a byte of its section, and 2 ^ 34 more, so that it is no negative number:
-- the immediate is signed.
abbrev pub called_at : List ℕ → ℕ → ℕ → ℕ
called_at code from k = from + 8 * (k + 1) + 8 * ((field 4 code (8 * k + 4) + 2 ^ 31) % 2 ^ 32)

-- a function of the section begins there
abbrev pub is_called : ℕ → ℕ → ℕ → Symbol → Bool
is_called sections section at s = is_function sections s && s.section == section && s.value + 2 ^ 34 == at
