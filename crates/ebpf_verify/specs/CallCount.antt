-- How many calls a program has, and how many calls of swap among them.
use Rattle.std.specs.Prelude.{ℕ, Bool, true, false, List, drop, count_by, Option, Some}
use Rattle.ebpf_insn.specs.declared.insn.Insn.{Insn}
use Rattle.ebpf_insn.specs.declared.insn.Insn.TheVariants.{Call}
use Rattle.ebpf_verify.specs.declared.call_count.Counted.{Counted}
use Rattle.ebpf_verify.specs.declared.call_count.Counted.TheVariants.{Calls, Swaps}
use Rattle.ebpf_operation.specs.declared.helper.Helper.{Helper}
use Rattle.ebpf_operation.specs.declared.helper.Helper.TheVariants.{Swap}
use Rattle.ebpf_operation.specs.Helpers.{helper_of}

-- whether a call is at a slot
abbrev pub is_call_there : Option Insn → Bool
is_call_there (Some (Call number)) = true
is_call_there _ = false

-- whether a helper is swap
abbrev pub is_swap : Option Helper → Bool
is_swap (Some Swap) = true
is_swap _ = false

-- whether a call of swap is at a slot
abbrev pub is_swap_there : Option Insn → Bool
is_swap_there (Some (Call number)) = is_swap (helper_of number)
is_swap_there _ = false

abbrev pub is_counted : Counted → Option Insn → Bool
is_counted Calls = is_call_there
is_counted Swaps = is_swap_there

-- how many calls are at the slots from this one on
abbrev pub calls_from : List (Option Insn) → ℕ → ℕ
calls_from p slot = count_by is_call_there (drop slot p)

-- and how many calls of swap
abbrev pub swaps_from : List (Option Insn) → ℕ → ℕ
swaps_from p slot = count_by is_swap_there (drop slot p)
