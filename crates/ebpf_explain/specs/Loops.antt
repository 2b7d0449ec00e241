-- Whether a jump back closes a loop.
use Rattle.std.specs.Prelude.{◌+◌, ◌-◌, ℕ, zero, suc, List, Bool, false, ◌&&◌, ◌||◌, ◌==◌, Option, Some, None}
use Rattle.ebpf_insn.specs.declared.insn.Insn.{Insn}
use Rattle.ebpf_flow.specs.Edges.{edges_at, has_edge_to, jump_of}

-- a path leads from one slot to another, along edges of the n slots from the first on
unfoldable pub led_by : List (Option Insn) → (from n : ℕ) → ℕ → Bool
led_by p from zero to = to == from
led_by p from (suc n) to = (led_by p from n (from + n) && has_edge_to (edges_at p (from + n)) to) || led_by p from n to

-- a path leads forward from one slot to another
abbrev pub leads_forward : List (Option Insn) → Option ℕ → ℕ → Bool
leads_forward p None to = false
leads_forward p (Some from) to = led_by p from (to - from) to

-- a path leads forward from where the instruction of a slot jumps to, back to this slot
abbrev pub closes_loop : List (Option Insn) → ℕ → Insn → Bool
closes_loop p slot i = leads_forward p (jump_of i slot) slot
