-- Stretches of a program: instructions that lead to the slot after them and nowhere else, and the one after them.
use Rattle.std.specs.Prelude.{◌≡◌, ℕ, zero, suc, ◌+◌, ◌<◌, ◌==◌, ◌&&◌, not, cond, Bool, false, List, length, get_or, Option, Some, None}
use Rattle.ebpf_insn.specs.declared.insn.Insn.{Insn}
use Rattle.ebpf_flow.specs.Edges.{edges_at}
use Rattle.ebpf_cover.specs.declared.tally.Tally.{Tally}

-- of two edges only the first is there, and it leads to this slot
abbrev pub is_only : Option ℕ → Option ℕ → ℕ → Bool
is_only (Some fall) None next = fall == next
is_only (Some fall) (Some jump) next = false
is_only None jump next = false

-- the instruction at a slot leads to the next slot and nowhere else
abbrev pub goes_on : List (Option Insn) → ℕ → Bool
goes_on p slot = is_only (edges_at p slot).fall (edges_at p slot).jump (slot + 1)

-- for each slot, how many instructions from there on do so
abbrev pub AreStraight : List (Option Insn) → List ℕ → Type 0
AreStraight p straight = (slot : ℕ) → get_or straight slot 0 ≡ cond (goes_on p slot) (get_or straight (slot + 1) 0 + 1) 0

-- how often a slot was executed: as often as a stretch began there, and as the one before it, where that goes on
unfoldable pub passed : (on : ℕ → Bool) → (begun : ℕ → ℕ) → ℕ → ℕ
passed on begun zero = begun zero
passed on begun (suc slot) = begun (suc slot) + cond (on slot) (passed on begun slot) 0

-- ---- a tally of stretches

-- how many slots it is of
abbrev pub slots_in : Tally → ℕ
slots_in t = length t.straight.items

-- it has a number for each of them, and a stretch ends at one of them
pub record IsWide (t : Tally) : Type 0 where
  pub begun : length t.begun.items ≡ slots_in t
  pub taken : length t.taken.items ≡ slots_in t
  pub inside : (slot : ℕ) → slot < slots_in t → slot + get_or t.straight.items slot 0 < slots_in t

-- it is of stretches of this program
pub record IsTally (p : List (Option Insn)) (t : Tally) : Type 0 where
  pub wide : IsWide t
  pub long : slots_in t ≡ length p
  pub straight : AreStraight p t.straight.items

abbrev pub begun_at : Tally → ℕ → ℕ
begun_at t slot = get_or t.begun.items slot 0

-- how often stretches executed the instruction at a slot
abbrev pub executed_so_far : List (Option Insn) → Tally → ℕ → ℕ
executed_so_far p t slot = passed (goes_on p) (begun_at t) slot

-- and went on from there elsewhere than at the next slot
abbrev pub taken_so_far : Tally → ℕ → ℕ
taken_so_far t slot = get_or t.taken.items slot 0

-- a stretch is counted, from one slot to another, and the slot after it
pub record IsNoted (first last next : ℕ) (old new : Tally) : Type 0 where
  pub begun : (slot : ℕ) → begun_at new slot ≡ begun_at old slot + cond (first == slot) 1 0
  pub taken : (slot : ℕ) → taken_so_far new slot ≡ taken_so_far old slot + cond ((last == slot) && not (next == slot + 1)) 1 0
