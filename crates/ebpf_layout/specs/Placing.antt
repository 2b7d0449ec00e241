-- The order of the new program, made from its end to its start.
use Rattle.std.specs.Prelude.{◌≡◌, ◌⊎◌, ◌<◌, ◌+◌, ◌-◌, ℕ, List, [], length, Bool, true, false, ◌&&◌, not, Option, Some, None, slice_get, is_none}
use Rattle.ebpf_insn.specs.declared.insn.Insn.{Insn}
use Rattle.ebpf_insn.specs.Program.{insn_at}
use Rattle.ebpf_insn.specs.Encoding.{IsWellFormed}
use Rattle.ebpf_flow.specs.Edges.{edges_at}
use Rattle.ebpf_layout.specs.declared.mark.Mark.{Mark}
use Rattle.ebpf_layout.specs.Paths.{IsReached}
use Rattle.ebpf_layout.specs.Search.{is_done, mark_at, standing, done_slots, slots_of, IsBehind, AreMarked}

-- the instruction that an edge leads to is placed, if it leads to one
abbrev pub is_placed : List Mark → Option ℕ → Bool
is_placed marks None = true
is_placed marks (Some to) = is_done (mark_at marks to)

-- what was found isn't placed yet
abbrev pub is_left : List Mark → List Mark → ℕ → Bool
is_left found marks slot = is_done (mark_at found slot) && not (is_done (mark_at marks slot))

-- all that an instruction leads to is placed
abbrev pub is_free : List (Option Insn) → List Mark → ℕ → Bool
is_free p marks slot = is_placed marks (standing p (edges_at p slot).jump) && is_placed marks (standing p (edges_at p slot).fall)

-- so it may be placed next
abbrev pub is_ready : List (Option Insn) → List Mark → List Mark → ℕ → Bool
is_ready p found marks slot = is_left found marks slot && is_free p marks slot

-- a slot may be placed next, and is what falls to the one that was placed last, if that may be
pub record GoesNext (p : List (Option Insn)) (found marks : List Mark) (order : List ℕ) (slot : ℕ) : Type 0 where
  pub ready : is_ready p found marks slot ≡ true
  pub falls : (last from : ℕ) → slice_get order (length order - 1) ≡ Some last → (edges_at p from).fall ≡ Some last → is_ready p found marks from ≡ true → from ≡ slot

-- this slot, and no other, may fall to the one that was placed last
abbrev pub IsBeforeLast : List (Option Insn) → List ℕ → Option ℕ → Type 0
IsBeforeLast p order before = (last from : ℕ) → slice_get order (length order - 1) ≡ Some last → (edges_at p from).fall ≡ Some last → before ≡ Some from

-- what an instruction jumps to isn't placed before or as this number of the order
abbrev pub Waits : List (Option Insn) → List ℕ → ℕ → ℕ → Type 0
Waits p order n slot =
    (to : ℕ) × ((edges_at p slot).jump ≡ Some to) × (is_none (insn_at p to) ≡ false) × ((k : ℕ) → slice_get order k ≡ Some to → n < k)

-- what falls to another is placed right after it, or waits for what it jumps to
abbrev pub AreNeighbours : List (Option Insn) → List ℕ → Type 0
AreNeighbours p order =
    (n m to from : ℕ) → slice_get order n ≡ Some to → slice_get order m ≡ Some from → (edges_at p from).fall ≡ Some to → (m ≡ n + 1) ⊎ Waits p order n from

-- what is placed so far
pub record IsPlacing (p : List (Option Insn)) (marks : List Mark) (order : List ℕ) : Type 0 where
  pub all : length marks ≡ length p
  pub formed : IsWellFormed p
  pub marked : AreMarked marks [] order
  pub ordered : (n slot : ℕ) → slice_get order n ≡ Some slot → IsReached p slot × (is_none (insn_at p slot) ≡ false) × IsBehind p order n slot
  pub size : slots_of p order ≡ done_slots p marks
  pub neighbours : AreNeighbours p order
  -- what falls to one that is placed, not as the last, and isn't placed itself waits for what it jumps to
  pub waits : (n to from : ℕ) → slice_get order n ≡ Some to → n + 1 < length order → (edges_at p from).fall ≡ Some to → is_done (mark_at marks from) ≡ false
      → IsReached p from → Waits p order n from
