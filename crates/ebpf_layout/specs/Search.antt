-- What the search knows at each step, and the order that it ends with.
use Rattle.std.specs.Prelude.{◌≡◌, ◌⊎◌, ◌<◌, ◌+◌, ℕ, List, [], ◌∷◌, length, Option, Some, None, slice_get, slice_index_or, is_none, Bool, true, false}
use Rattle.ebpf_insn.specs.declared.insn.Insn.{Insn}
use Rattle.ebpf_insn.specs.Program.{insn_at, slots_in}
use Rattle.ebpf_insn.specs.Encoding.{IsWellFormed}
use Rattle.ebpf_layout.specs.declared.fault.LayoutFault.{LayoutFault}
use Rattle.ebpf_layout.specs.declared.fault.LayoutFault.TheVariants.{Loop}
use Rattle.ebpf_layout.specs.declared.mark.Mark.{Mark}
use Rattle.ebpf_layout.specs.declared.mark.Mark.TheVariants.{New, Open, Done}
use Rattle.ebpf_layout.specs.Paths.{IsEdge, IsReached}

abbrev pub mark_at : List Mark → ℕ → Mark
mark_at marks slot = slice_index_or marks slot New

-- an edge, if it leads to an instruction
abbrev pub if_there : Option Insn → ℕ → Option ℕ
if_there None to = None
if_there (Some i) to = Some to

abbrev pub standing : List (Option Insn) → Option ℕ → Option ℕ
standing p None = None
standing p (Some to) = if_there (insn_at p to) to

abbrev pub IsDone : Mark → Type 0
IsDone (Done n) = Unit {0}
IsDone _ = ⊥

abbrev pub is_done : Mark → Bool
is_done (Done n) = true
is_done _ = false

-- how much is left to be done: each slot is opened once and closed once
abbrev pub left_at : Mark → ℕ
left_at New = 2
left_at (Open n) = 1
left_at (Done n) = 0

abbrev pub left : List Mark → ℕ
left [] = 0
left (mark ∷ marks) = left_at mark + left marks

-- an edge leads back to the path of the search, and so closes a loop
abbrev pub ClosesLoop : List Mark → (from : ℕ) → Option ℕ → LayoutFault → Type 0
ClosesLoop marks from edge fault = (to : ℕ) × (k : ℕ) × (edge ≡ Some to) × (mark_at marks to ≡ Open k) × (fault ≡ Loop from to)

-- all that an instruction leads to comes earlier in the order
abbrev pub IsBehind : List (Option Insn) → List ℕ → ℕ → ℕ → Type 0
IsBehind p order n slot = (to : ℕ) → IsEdge p slot to → (insn_at p to ≡ None) ⊎ ((m : ℕ) × (m < n) × (slice_get order m ≡ Some to))

-- the marks tell the numbers of the slots on the path and in the order
pub record AreMarked (marks : List Mark) (path order : List ℕ) : Type 0 where
  pub path_slot : (slot k : ℕ) → mark_at marks slot ≡ Open k → slice_get path k ≡ Some slot
  pub path_mark : (slot k : ℕ) → slice_get path k ≡ Some slot → mark_at marks slot ≡ Open k
  pub order_slot : (slot n : ℕ) → mark_at marks slot ≡ Done n → slice_get order n ≡ Some slot
  pub order_mark : (slot n : ℕ) → slice_get order n ≡ Some slot → mark_at marks slot ≡ Done n

-- how many slots what is done takes up
abbrev pub size_of : Option Insn → ℕ
size_of None = 0
size_of (Some i) = slots_in i

abbrev pub done_size : Mark → Option Insn → ℕ
done_size (Done n) o = size_of o
done_size _ o = 0

abbrev pub done_slots : List (Option Insn) → List Mark → ℕ
done_slots [] marks = 0
done_slots (o ∷ p) [] = 0
done_slots (o ∷ p) (mark ∷ marks) = done_size mark o + done_slots p marks

abbrev pub slots_of : List (Option Insn) → List ℕ → ℕ
slots_of p [] = 0
slots_of p (slot ∷ order) = size_of (insn_at p slot) + slots_of p order

-- what holds of the search at each step
pub record IsSearch (p : List (Option Insn)) (marks : List Mark) (path order : List ℕ) : Type 0 where
  pub all : length marks ≡ length p
  pub formed : IsWellFormed p
  pub marked : AreMarked marks path order
  -- the path begins with slot 0, which is the last of the order once the path is gone
  pub some : 0 < length path + length order
  pub first : 0 < length path → slice_get path 0 ≡ Some 0
  pub last : length path ≡ 0 → (n : ℕ) → n + 1 ≡ length order → slice_get order n ≡ Some 0
  pub linked : (k from to : ℕ) → slice_get path k ≡ Some from → slice_get path (k + 1) ≡ Some to → IsEdge p from to
  pub reached : (k slot : ℕ) → slice_get path k ≡ Some slot → IsReached p slot
  pub ordered : (n slot : ℕ) → slice_get order n ≡ Some slot → IsReached p slot × (is_none (insn_at p slot) ≡ false) × IsBehind p order n slot
  pub size : slots_of p order ≡ done_slots p marks
  pub there : (k slot : ℕ) → slice_get path k ≡ Some slot → is_none (insn_at p slot) ≡ false

-- an order of the reached instructions, the last of which is slot 0: all that one leads to comes earlier
abbrev pub IsOrder : List (Option Insn) → List Mark → List ℕ → Type 0
IsOrder p marks order = IsSearch p marks [] order
