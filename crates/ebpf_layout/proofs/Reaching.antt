-- What is reached is in the order.
use Rattle.std.proofs.Common.{◌≡◌, ℕ, ◌+◌, ◌-◌, ◌<◌, arith, List, [], ◌∷◌, length, Option, Some, None, ℤ, leb, true, false, refl, sym, ap, ◌∙◌}
use Rattle.std.proofs.Common.{subst, inl, inr, ◌⊎◌}
use Rattle.std.specs.Prelude.{slice_get, is_none, ◌&&◌}
use Rattle.std.proofs.lemmas.Option.{none-some, cond_some}
use Rattle.std.proofs.lemmas.Bool.{and_cases, false≢true, leb-false}
use Rattle.ebpf_insn.proofs.FaultLemmas.{none_first}
use Rattle.ebpf_insn.specs.Encoding.{IsWellFormed}
use Rattle.ebpf_flow.proofs.Next.{next_is_insn}
use Rattle.ebpf_flow.specs.Flow.{or_else}
use Rattle.ebpf_flow.specs.declared.fault.FlowCode.TheVariants.{JumpOutside, JumpIntoWide, FallsOffEnd}
use Rattle.ebpf_insn.specs.declared.insn.Insn.{Insn}
use Rattle.ebpf_insn.specs.Program.{insn_at, slots_in}
use Rattle.ebpf_flow.specs.declared.fault.FlowCode.{FlowCode}
use Rattle.ebpf_flow.specs.Edges.{falls, displacement_of, target_of, fall_of, has_edge_to, edges_of}
use Rattle.ebpf_layout.specs.declared.mark.Mark.{Mark}
use Rattle.ebpf_layout.specs.Paths.{IsEdge, LeadBy, IsReached}
use Rattle.ebpf_layout.specs.EdgeFaults.{target_fault, jump_fault, fall_fault, edge_fault, edge_fault_at}
use Rattle.ebpf_layout.specs.Refusal.{IsLowestFault}
use Rattle.ebpf_layout.specs.Search.{mark_at, IsDone, IsOrder}
use Rattle.ebpf_layout.proofs.PathLemmas.{edge_cases}
use Rattle.ebpf_layout.proofs.Searching.{done_number, done_inside}

-- nothing is led to from where no instruction is
no_edge : (p : List (Option Insn)) (from to : ℕ) → insn_at p from ≡ None → IsEdge p from to → ⊥
no_edge p from to none edge =
    let empty : has_edge_to (edges_of None from) to ≡ true = subst (λ (x : Option Insn). has_edge_to (edges_of x from) to ≡ true) none edge in
    cc

-- a number in the order has a slot
abbrev pub IsIn : List ℕ → ℕ → Type 0
IsIn order slot = (n : ℕ) × (slice_get order n ≡ Some slot)

ended : (p : List (Option Insn)) (from : ℕ) (steps : List ℕ) (to : ℕ) → insn_at p from ≡ None → LeadBy p from steps to → insn_at p to ≡ None
ended p from [] to none same = subst (λ (x : ℕ). insn_at p x ≡ None) same none
ended p from (next ∷ rest) to none lead = absurd (no_edge p from next none lead.0)

-- slot 0 is the last of the order
pub last_number : (p : List (Option Insn)) (marks : List Mark) (order : List ℕ) → IsOrder p marks order
    → (n : ℕ) × (n + 1 ≡ length order) × (slice_get order n ≡ Some 0)
last_number p marks order h =
    let some : 0 < length order = omega (arith, h.some) in
    let last : length order - 1 + 1 ≡ length order = omega arith in
    (length order - 1, last, h.last refl (length order - 1) last)

pub last_in : (p : List (Option Insn)) (marks : List Mark) (order : List ℕ) → IsOrder p marks order → IsIn order 0
last_in p marks order h = let n = last_number p marks order h in (n.0, n.2)

-- from what is in the order one comes only to what is in it too, or to no instruction
led_on : (p : List (Option Insn)) (marks : List Mark) (order : List ℕ) → IsOrder p marks order
    → (from : ℕ) (steps : List ℕ) (to n : ℕ) → slice_get order n ≡ Some from
    → LeadBy p from steps to → (insn_at p to ≡ None) ⊎ IsIn order to
led_on p marks order h from [] to n at same = inr (n, subst (λ (x : ℕ). slice_get order n ≡ Some x) same at)
led_on p marks order h from (next ∷ rest) to n at lead = elim ((h.ordered n from at).2 next lead.0) [
  | inl none ↦ inl (ended p next rest to none lead.1)
  | inr m ↦ led_on p marks order h next rest to m.0 m.2 lead.1
]

-- what is reached is in the order, if an instruction is there
pub reached_in : (p : List (Option Insn)) (marks : List Mark) (order : List ℕ) (slot : ℕ) → IsOrder p marks order → IsReached p slot
    → (insn_at p slot ≡ None) ⊎ IsIn order slot
reached_in p marks order slot h reached =
    let zero = last_in p marks order h in
    led_on p marks order h 0 reached.steps slot zero.0 zero.1 reached.lead

pub done_reached : (p : List (Option Insn)) (marks : List Mark) (order : List ℕ) (slot : ℕ) → IsOrder p marks order
    → IsDone (mark_at marks slot) → IsReached p slot
done_reached p marks order slot h done =
    let number = done_number (mark_at marks slot) done in
    (h.ordered number.0 slot (h.marked.order_slot slot number.0 number.1)).0

pub in_done : (p : List (Option Insn)) (marks : List Mark) (order : List ℕ) (slot : ℕ) → IsOrder p marks order → IsIn order slot → IsDone (mark_at marks slot)
in_done p marks order slot h in_order = subst IsDone (sym (h.marked.order_mark slot in_order.0 in_order.1)) tt

-- ---- the faults of edges

-- each slot below a number that is done has no fault
abbrev pub AreFine : List (Option Insn) → List Mark → ℕ → Type 0
AreFine p marks n = (k : ℕ) → k < n → IsDone (mark_at marks k) → edge_fault_at p k ≡ None

reached_fine : (p : List (Option Insn)) (marks : List Mark) (order : List ℕ) (n k : ℕ) → IsOrder p marks order → AreFine p marks n
    → k < n → IsReached p k → edge_fault_at p k ≡ None
reached_fine p marks order n k h fine lt reached = elim (reached_in p marks order k h reached) [
  | inl none ↦ ap (edge_fault p k) none
  | inr placed ↦ fine k lt (in_done p marks order k h placed)
]

pub lowest_fault : (p : List (Option Insn)) (marks : List Mark) (order : List ℕ) (slot : ℕ) (code : FlowCode)
    → IsOrder p marks order → AreFine p marks slot → IsDone (mark_at marks slot)
    → edge_fault_at p slot ≡ Some code → IsLowestFault p slot code
lowest_fault p marks order slot code h fine done here = record {
  reached = done_reached p marks order slot h done;
  here = here;
  before = λ k lt reached. reached_fine p marks order slot k h fine lt reached;
}

pub all_fine : (p : List (Option Insn)) (marks : List Mark) (order : List ℕ) (slot : ℕ) → IsOrder p marks order
    → AreFine p marks (length p) → IsReached p slot → edge_fault_at p slot ≡ None
all_fine p marks order slot h fine reached = elim (reached_in p marks order slot h reached) [
  | inl none ↦ ap (edge_fault p slot) none
  | inr placed ↦
      let done = in_done p marks order slot h placed in
      let number = done_number (mark_at marks slot) done in
      let inside = done_inside marks slot number.0 number.1 in
      fine slot (subst (λ (n : ℕ). slot < n) h.all inside) done
]

-- ---- where edges lead that have no fault

pub none_of : {C : Type 0} (a b : Option C) → or_else a b ≡ None → (a ≡ None) × (b ≡ None)
none_of None b e = (refl, e)
none_of (Some x) b e = absurd (none-some x (sym e))

fall_there : (p : List (Option Insn)) (slot to : ℕ) (i : Insn) → IsWellFormed p → insn_at p slot ≡ Some i
    → fall_fault p slot i ≡ None → fall_of i slot ≡ Some to → is_none (insn_at p to) ≡ false
fall_there p slot to i formed at fine falls_to =
    let parts = cond_some (falls i) (slot + slots_in i) to falls_to in
    let test = none_first (falls i && leb (length p) (slot + slots_in i)) FallsOffEnd None fine in
    elim (and_cases (falls i) (leb (length p) (slot + slots_in i)) test.0) [
      | inl stays ↦ absurd (false≢true (sym stays ∙ parts.0))
      | inr below ↦ subst (λ (k : ℕ). is_none (insn_at p k) ≡ false) parts.1 (next_is_insn p slot i formed at (leb-false (length p) (slot + slots_in i) below))
    ]

jump_there : (p : List (Option Insn)) (slot to : ℕ) (d : Option ℤ) → jump_fault p slot d ≡ None → target_of d slot ≡ Some to → is_none (insn_at p to) ≡ false
jump_there p slot to None fine jumps = absurd (none-some to jumps)
jump_there p slot to (Some z) fine jumps =
    let at : target_fault p (Some to) ≡ None = subst (λ (t : Option ℕ). target_fault p t ≡ None) jumps fine in
    let outside = none_first (leb (length p) to) JumpOutside _ at in
    (none_first (is_none (insn_at p to)) JumpIntoWide _ outside.1).0

pub edge_there : (p : List (Option Insn)) (slot to : ℕ) (i : Insn) → IsWellFormed p → insn_at p slot ≡ Some i
    → edge_fault_at p slot ≡ None → IsEdge p slot to → is_none (insn_at p to) ≡ false
edge_there p slot to i formed at fine edge =
    let here : edge_fault p slot (Some i) ≡ None = subst (λ (o : Option Insn). edge_fault p slot o ≡ None) at fine in
    let parts = none_of (jump_fault p slot (displacement_of i)) (fall_fault p slot i) here in
    elim (edge_cases p slot to edge) [
      | inl falls ↦ fall_there p slot to i formed at parts.1 (subst (λ (o : Option Insn). (edges_of o slot).fall ≡ Some to) at falls)
      | inr jumps ↦ jump_there p slot to (displacement_of i) parts.0 (subst (λ (o : Option Insn). (edges_of o slot).jump ≡ Some to) at jumps)
    ]

-- an element of the order is an instruction
pub ordered_insn : (p : List (Option Insn)) (slot : ℕ) (o : Option Insn) → insn_at p slot ≡ o → is_none o ≡ false → (i : Insn) × (insn_at p slot ≡ Some i)
ordered_insn p slot None at there = absurd (false≢true (sym there))
ordered_insn p slot (Some i) at there = (i, at)

-- where nothing reached has a fault, all that is led to comes earlier in the order
pub behind_fine : (p : List (Option Insn)) (marks : List Mark) (order : List ℕ) (n slot to : ℕ) → IsOrder p marks order
    → ((k : ℕ) → IsReached p k → edge_fault_at p k ≡ None)
    → slice_get order n ≡ Some slot → IsEdge p slot to → (m : ℕ) × (m < n) × (slice_get order m ≡ Some to)
behind_fine p marks order n slot to h fine at edge =
    let o = h.ordered n slot at in
    let i = ordered_insn p slot (insn_at p slot) refl o.1 in
    elim (o.2 to edge) [
      | inl none ↦ absurd (false≢true (sym (edge_there p slot to i.0 h.formed i.1 (fine slot o.0) edge) ∙ ap is_none none))
      | inr m ↦ m
    ]
