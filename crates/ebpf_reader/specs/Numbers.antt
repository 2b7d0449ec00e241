-- The numbers of a script: decimal digits alone, with any number of leading zeros.
use Rattle.std.specs.Prelude.{ℕ, ◌+◌, ◌-◌, ◌*◌, Bool, not, ◌&&◌, ◌==◌, nat_le, if◌then◌else◌, List, length, fold, Option, Some, None}
use Rattle.std.specs.Str.{all_ascii_digits}
use Rattle.ebpf_verify.specs.declared.decl.TheConstants.{MAX_CONTEXT, MAX_HELD}
use Rattle.vmem_arena.specs.declared.arena.TheConstants.{MAX_PAGES}

-- the value of decimal digits
abbrev pub value_of : List ℕ → ℕ
value_of digits = fold (λ value digit. 10 * value + (digit - 48)) 0 digits

-- digits, and at least one
abbrev pub is_number : List ℕ → Bool
is_number word = not (length word == 0) && all_ascii_digits word

-- the number that a word writes, if it is at most this
unfoldable pub number_to : ℕ → List ℕ → Option ℕ
number_to most word = if is_number word && nat_le (value_of word) most then Some (value_of word) else None

-- the length of a context, and the most objects to hold
abbrev pub context_of : List ℕ → Option ℕ
context_of word = number_to MAX_CONTEXT word

abbrev pub held_of : List ℕ → Option ℕ
held_of word = number_to MAX_HELD word

-- the number of a run, of a kind and of a slot
abbrev pub run_of : List ℕ → Option ℕ
run_of word = number_to 4294967295 word

abbrev pub kind_of : List ℕ → Option ℕ
kind_of word = number_to 255 word

abbrev pub slot_of : List ℕ → Option ℕ
slot_of word = number_to 65535 word

-- 0 is none
abbrev pub unless_zero : Option ℕ → Option ℕ
unless_zero None = None
unless_zero (Some n) = if n == 0 then None else Some n

-- the pages of an arena
abbrev pub pages_of : List ℕ → Option ℕ
pages_of word = unless_zero (number_to MAX_PAGES word)
