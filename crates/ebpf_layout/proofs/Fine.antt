-- The new program has no fault of its flow.
use Rattle.std.proofs.Common.{◌≡◌, ℕ, zero, suc, ◌+◌, ◌<◌, ◌≤◌, ℤ, pos, List, [], ◌∷◌, length, Option, Some, None, Bool, true, false, leb, refl}
use Rattle.std.proofs.Common.{sym, ap, ◌∙◌, subst, arith, inl, inr, ◌⊎◌, add-one}
use Rattle.std.specs.Prelude.{is_none, ◌&&◌}
use Rattle.std.proofs.lemmas.Bool.{cases_lt, lt-leb, and_from, or_left, or_right}
use Rattle.std.proofs.lemmas.Option.{none-some, same_Some}
use Rattle.ebpf_insn.specs.declared.insn.Insn.{Insn}
use Rattle.ebpf_insn.specs.declared.insn.Insn.TheVariants as insn
use Rattle.ebpf_insn.specs.Program.{insn_at, slots_in}
use Rattle.ebpf_insn.proofs.FaultLemmas.{lowest_none}
use Rattle.ebpf_flow.specs.declared.fault.FlowCode.{FlowCode}
use Rattle.ebpf_flow.specs.Edges.{falls, displacement_of, target_of, jump_of, fall_of, edges_of, edges_at, has_edge_to, reached_by, is_reached}
use Rattle.ebpf_flow.specs.Flow.{jump_fault, fall_fault, or_else, insn_fault, flow_fault_at, flow_fault}
use Rattle.ebpf_insn.specs.Encoding.{IsWellFormed}
use Rattle.ebpf_flow.proofs.Next.{slot_zero_is_insn}
use Rattle.ebpf_flow.proofs.Reach.{reached_by-none, reached_by-more}
use Rattle.ebpf_layout.specs.Paths.{IsEdge, LeadBy, IsReached}
use Rattle.ebpf_layout.specs.EdgeFaults as faults
use Rattle.ebpf_layout.specs.Layout.{moved, IsJumpTo, IsLaidOut}
use Rattle.ebpf_layout.proofs.PathLemmas.{path_none, path_more, edge_cases, fall_is_edge, jump_is_edge}
use Rattle.ebpf_layout.proofs.Searching.{there_inside}
use Rattle.ebpf_layout.proofs.Written.{moved_none}
use Rattle.ebpf_layout.proofs.Reaching.{none_of, ordered_insn, edge_there}

-- ---- what is reached by edges that lead forward

reached_stays : (q : List (Option Insn)) (m n to : ℕ) → m ≤ n → reached_by q m to ≡ true → reached_by q n to ≡ true
reached_stays q m zero to le e = let same : m ≡ 0 = omega arith in rw same at e
reached_stays q m (suc n) to le e = elim (cases_lt n m) [
  | inl lt ↦ let same : m ≡ suc n = omega arith in rw same at e
  | inr below ↦
      let before = reached_stays q m n to below e in
      subst (λ (k : ℕ). reached_by q k to ≡ true) (add-one n)
      (sym (reached_by-more q n to (reached_by q n to) refl) ∙ or_right (reached_by q n n && has_edge_to (edges_at q n) to) (reached_by q n to) before)
]

reached_next : (q : List (Option Insn)) (from to : ℕ) → is_reached q from ≡ true → IsEdge q from to → from < to → is_reached q to ≡ true
reached_next q from to reached edge lt =
    let here : reached_by q (from + 1) to ≡ true =
    sym (reached_by-more q from to (reached_by q from to) refl)
    ∙ or_left (reached_by q from from && has_edge_to (edges_at q from) to) (reached_by q from to)
    (and_from (reached_by q from from) (has_edge_to (edges_at q from) to) reached edge) in
    reached_stays q (from + 1) to to (omega arith) here

reached_first : (q : List (Option Insn)) → is_reached q 0 ≡ true
reached_first q = reached_by-none q 0

-- ---- all edges of the new program lead forward

-- each instruction of a program jumps forward or not at all
abbrev pub JumpsForward : List (Option Insn) → Type 0
JumpsForward q = (k : ℕ) (i : Insn) → insn_at q k ≡ Some i → (j : Insn) × (way : ℕ) × (i ≡ moved j (pos way))

forward_jump : (j : Insn) (way k to : ℕ) → jump_of (moved j (pos way)) k ≡ Some to → k < to
forward_jump (insn.Jump offset) way k to e = let at : k + 1 + way ≡ to = same_Some (k + 1 + way) to e in omega arith
forward_jump (insn.JumpFar offset) way k to e = let at : k + 1 + way ≡ to = same_Some (k + 1 + way) to e in omega arith
forward_jump (insn.Branch width condition left right offset) way k to e = let at : k + 1 + way ≡ to = same_Some (k + 1 + way) to e in omega arith
forward_jump _ way k to e = absurd (none-some to e)

forward_fall : (i : Insn) (k to : ℕ) → fall_of i k ≡ Some to → k < to
forward_fall (insn.Jump offset) k to e = absurd (none-some to e)
forward_fall (insn.JumpFar offset) k to e = absurd (none-some to e)
forward_fall insn.Exit k to e = absurd (none-some to e)
forward_fall (insn.Wide dst value) k to e = let at : k + 2 ≡ to = same_Some (k + 2) to e in omega arith
forward_fall _ k to e = let at : k + 1 ≡ to = same_Some (k + 1) to e in omega arith

no_insn_edge : (q : List (Option Insn)) (k to : ℕ) → insn_at q k ≡ None → IsEdge q k to → ⊥
no_insn_edge q k to none edge =
    let empty : has_edge_to (edges_of None k) to ≡ true = subst (λ (o : Option Insn). has_edge_to (edges_of o k) to ≡ true) none edge in
    cc

forward_at : (q : List (Option Insn)) (k to : ℕ) (o : Option Insn) → JumpsForward q → insn_at q k ≡ o → IsEdge q k to → k < to
forward_at q k to None h at edge = absurd (no_insn_edge q k to at edge)
forward_at q k to (Some i) h at edge =
    let m = h k i at in
    elim (edge_cases q k to edge) [
      | inl falls_to ↦ forward_fall i k to (subst (λ (o : Option Insn). (edges_of o k).fall ≡ Some to) at falls_to)
      | inr jumps ↦ forward_jump m.0 m.1 k to
          (subst (λ (x : Insn). jump_of x k ≡ Some to) m.2 (subst (λ (o : Option Insn). (edges_of o k).jump ≡ Some to) at jumps))
    ]

pub forward : (q : List (Option Insn)) (k to : ℕ) → JumpsForward q → IsEdge q k to → k < to
forward q k to h edge = forward_at q k to (insn_at q k) h refl edge

-- ---- and all that is in it is reached

next_reached : (p q : List (Option Insn)) (from to : ℕ) → (l : IsLaidOut p q) → JumpsForward q → IsReached p from
    → is_reached q (l.place from) ≡ true → IsEdge p from to → is_reached q (l.place to) ≡ true
next_reached p q from to l h reached here edge = elim (edge_cases p from to edge) [
  | inl falls_to ↦
      let f = l.falls from to reached falls_to in
      let step = fall_is_edge q (l.place from) f.0 f.1 in
      let after = reached_next q (l.place from) f.0 here step (forward q (l.place from) f.0 h step) in
      elim f.2 [
        | inl same ↦ subst (λ (k : ℕ). is_reached q k ≡ true) same after
        | inr jump ↦
            let on = jump_is_edge q f.0 (l.place to) jump.2 in
            reached_next q f.0 (l.place to) after on (forward q f.0 (l.place to) h on)
      ]
  | inr jumps ↦
      let step = jump_is_edge q (l.place from) (l.place to) (l.jumps from to reached jumps) in
      reached_next q (l.place from) (l.place to) here step (forward q (l.place from) (l.place to) h step)
]

led_reached : (p q : List (Option Insn)) (from : ℕ) (steps : List ℕ) (to : ℕ) → (l : IsLaidOut p q) → JumpsForward q
    → IsReached p from → is_reached q (l.place from) ≡ true → LeadBy p from steps to
    → is_reached q (l.place to) ≡ true
led_reached p q from [] to l h reached here same = subst (λ (k : ℕ). is_reached q (l.place k) ≡ true) same here
led_reached p q from (next ∷ rest) to l h reached here lead =
    led_reached p q next rest to l h (path_more p 0 from next reached lead.0) (next_reached p q from next l h reached here lead.0) lead.1

pub place_reached : (p q : List (Option Insn)) (slot : ℕ) → (l : IsLaidOut p q) → JumpsForward q → IsReached p slot → is_reached q (l.place slot) ≡ true
place_reached p q slot l h reached =
    led_reached p q 0 reached.steps slot l h (path_none p 0) (subst (λ (k : ℕ). is_reached q k ≡ true) (sym l.first) (reached_first q)) reached.lead

-- ---- no instruction of it has a fault

-- it jumps to an instruction, or not at all
abbrev Jumps : List (Option Insn) → ℕ → Insn → Type 0
Jumps q k i = (displacement_of i ≡ None) ⊎ ((to : ℕ) × (jump_of i k ≡ Some to) × (is_none (insn_at q to) ≡ false))

record IsSound (q : List (Option Insn)) (k : ℕ) (i : Insn) : Type 0 where
  pub here : insn_at q k ≡ Some i
  pub jumps : Jumps q k i
  pub falls : (to : ℕ) → fall_of i k ≡ Some to → is_none (insn_at q to) ≡ false
  pub reached : is_reached q k ≡ true

no_jump_fault : (q : List (Option Insn)) (k to : ℕ) (d : Option ℤ) → k < to → is_none (insn_at q to) ≡ false → jump_fault q k d (Some to) ≡ None
no_jump_fault q k to None lt there = refl
no_jump_fault q k to (Some z) lt there = rw (lt-leb (length q) to (there_inside q to there), there, lt-leb to k lt) refl

no_displacement : (q : List (Option Insn)) (k : ℕ) (d : Option ℤ) (to : Option ℕ) → d ≡ None → jump_fault q k d to ≡ None
no_displacement q k None to e = refl
no_displacement q k (Some z) to e = absurd (none-some z (sym e))

sound_jump : (q : List (Option Insn)) (k : ℕ) (i : Insn) → JumpsForward q → IsSound q k i → jump_fault q k (displacement_of i) (jump_of i k) ≡ None
sound_jump q k i h s = elim s.jumps [
  | inl none ↦ no_displacement q k (displacement_of i) (jump_of i k) none
  | inr to ↦
      let edge = jump_is_edge q k to.0 (subst (λ (o : Option Insn). (edges_of o k).jump ≡ Some to.0) (sym s.here) to.1) in
      subst (λ (t : Option ℕ). jump_fault q k (displacement_of i) t ≡ None) (sym to.1)
      (no_jump_fault q k to.0 (displacement_of i) (forward q k to.0 h edge) to.2)
]

no_fall_fault : (q : List (Option Insn)) (k : ℕ) (i : Insn) → (falls i && leb (length q) (k + slots_in i)) ≡ false
    → is_reached q k ≡ true → fall_fault q k i ≡ None
no_fall_fault q k i inside reached = rw (inside, reached) refl

sound_falls : (q : List (Option Insn)) (k : ℕ) (i : Insn) (b : Bool) → falls i ≡ b → IsSound q k i → (b && leb (length q) (k + slots_in i)) ≡ false
sound_falls q k i false e s = refl
sound_falls q k i true e s =
    let to : fall_of i k ≡ Some (k + slots_in i) = rw e refl in
    lt-leb (length q) (k + slots_in i) (there_inside q (k + slots_in i) (s.falls (k + slots_in i) to))

sound_fall : (q : List (Option Insn)) (k : ℕ) (i : Insn) → IsSound q k i → fall_fault q k i ≡ None
sound_fall q k i s = no_fall_fault q k i (sound_falls q k i (falls i) refl s) s.reached

sound_fine : (q : List (Option Insn)) (k : ℕ) (i : Insn) → JumpsForward q → IsSound q k i → flow_fault_at q k ≡ None
sound_fine q k i h s =
    ap (insn_fault q k) s.here ∙ ap (λ (c : Option FlowCode). or_else c (fall_fault q k i)) (sound_jump q k i h s) ∙ sound_fall q k i s

target_some : (p : List (Option Insn)) (t : Option ℕ) → faults.target_fault p t ≡ None → (to : ℕ) × (t ≡ Some to)
target_some p None e = absurd (cc)
target_some p (Some to) e = (to, refl)

has_target : (p : List (Option Insn)) (slot : ℕ) (d : Option ℤ) → faults.jump_fault p slot d ≡ None → (d ≡ None) ⊎ ((to : ℕ) × (target_of d slot ≡ Some to))
has_target p slot None e = inl refl
has_target p slot (Some z) e = inr (target_some p (target_of (Some z) slot) e)

fall_back : (i : Insn) (z : ℤ) (k to slot : ℕ) → fall_of (moved i z) k ≡ Some to → fall_of i slot ≡ Some (slot + slots_in i)
fall_back (insn.Jump offset) z k to slot e = absurd (none-some to e)
fall_back (insn.JumpFar offset) z k to slot e = absurd (none-some to e)
fall_back insn.Exit z k to slot e = absurd (none-some to e)
fall_back _ z k to slot e = refl

there_if : (q : List (Option Insn)) (k : ℕ) (i : Insn) → insn_at q k ≡ Some i → is_none (insn_at q k) ≡ false
there_if q k i e = ap is_none e

-- a program of which nothing reached has a fault
record IsWhole (p : List (Option Insn)) : Type 0 where
  pub formed : IsWellFormed p
  pub fine : (k : ℕ) → IsReached p k → faults.edge_fault_at p k ≡ None
  pub there : (k : ℕ) → IsReached p k → is_none (insn_at p k) ≡ false

-- an instruction is where a reached slot is
place_there : (p q : List (Option Insn)) (slot : ℕ) → (l : IsLaidOut p q) → IsWhole p → IsReached p slot → is_none (insn_at q (l.place slot)) ≡ false
place_there p q slot l w reached =
    let i = ordered_insn p slot (insn_at p slot) refl (w.there slot reached) in
    let m = l.same slot i.0 reached i.1 in
    there_if q (l.place slot) (moved i.0 m.0) m.1

kept_jumps : (p q : List (Option Insn)) (slot : ℕ) (i : Insn) (z : ℤ) → (l : IsLaidOut p q) → IsWhole p → IsReached p slot
    → insn_at p slot ≡ Some i → insn_at q (l.place slot) ≡ Some (moved i z)
    → Jumps q (l.place slot) (moved i z)
kept_jumps p q slot i z l w reached at here =
    let fine : faults.edge_fault p slot (Some i) ≡ None = subst (λ (o : Option Insn). faults.edge_fault p slot o ≡ None) at (w.fine slot reached) in
    let parts = none_of (faults.jump_fault p slot (displacement_of i)) (faults.fall_fault p slot i) fine in
    elim (has_target p slot (displacement_of i) parts.0) [
      | inl none ↦ inl (ap displacement_of (moved_none i z none) ∙ none)
      | inr to ↦
          let jumps : (edges_at p slot).jump ≡ Some to.0 = subst (λ (o : Option Insn). (edges_of o slot).jump ≡ Some to.0) (sym at) to.1 in
          let lands = l.jumps slot to.0 reached jumps in
          let on = path_more p 0 slot to.0 reached (jump_is_edge p slot to.0 jumps) in
          inr (l.place to.0, subst (λ (o : Option Insn). (edges_of o (l.place slot)).jump ≡ Some (l.place to.0)) here lands, place_there p q to.0 l w on)
    ]

kept_falls : (p q : List (Option Insn)) (slot : ℕ) (i : Insn) (z : ℤ) (t : ℕ) → (l : IsLaidOut p q) → IsWhole p → IsReached p slot
    → insn_at p slot ≡ Some i → insn_at q (l.place slot) ≡ Some (moved i z)
    → fall_of (moved i z) (l.place slot) ≡ Some t → is_none (insn_at q t) ≡ false
kept_falls p q slot i z t l w reached at here falls_to =
    let to = slot + slots_in i in
    let old : (edges_at p slot).fall ≡ Some (slot + slots_in i) =
    subst (λ (o : Option Insn). (edges_of o slot).fall ≡ Some (slot + slots_in i)) (sym at) (fall_back i z (l.place slot) t slot falls_to) in
    let f = l.falls slot (slot + slots_in i) reached old in
    let next : fall_of (moved i z) (l.place slot) ≡ Some f.0 = subst (λ (o : Option Insn). (edges_of o (l.place slot)).fall ≡ Some f.0) here f.1 in
    let one : f.0 ≡ t = same_Some f.0 t (sym next ∙ falls_to) in
    let on = path_more p 0 slot (slot + slots_in i) reached (fall_is_edge p slot (slot + slots_in i) old) in
    elim f.2 [
      | inl same ↦ subst (λ (k : ℕ). is_none (insn_at q k) ≡ false) (sym same ∙ one) (place_there p q (slot + slots_in i) l w on)
      | inr jump ↦ subst (λ (k : ℕ). is_none (insn_at q k) ≡ false) one (there_if q f.0 (insn.Jump jump.0) jump.1)
    ]

kept_sound : (p q : List (Option Insn)) (slot : ℕ) → (l : IsLaidOut p q) → IsWhole p → JumpsForward q → IsReached p slot
    → (i : Insn) × IsSound q (l.place slot) i
kept_sound p q slot l w h reached =
    let i = ordered_insn p slot (insn_at p slot) refl (w.there slot reached) in
    let m = l.same slot i.0 reached i.1 in (
      moved i.0 m.0,
      record {
        here = m.1;
        jumps = kept_jumps p q slot i.0 m.0 l w reached i.1 m.1;
        falls = λ to e. kept_falls p q slot i.0 m.0 to l w reached i.1 m.1 e;
        reached = place_reached p q slot l h reached;
      },
    )

added_sound : (p q : List (Option Insn)) (k slot to : ℕ) → (l : IsLaidOut p q) → IsWhole p → JumpsForward q → IsReached p slot
    → (edges_at p slot).fall ≡ Some to → (edges_at q (l.place slot)).fall ≡ Some k
    → (j : IsJumpTo q k (l.place to)) → IsSound q k (insn.Jump j.0)
added_sound p q k slot to l w h reached falls_to here j =
    let on = path_more p 0 slot to reached (fall_is_edge p slot to falls_to) in
    let step = fall_is_edge q (l.place slot) k here in
    record {
      here = j.1;
      jumps = inr (l.place to, subst (λ (o : Option Insn). (edges_of o k).jump ≡ Some (l.place to)) j.1 j.2, place_there p q to l w on);
      falls = λ t e. absurd (none-some t e);
      reached = reached_next q (l.place slot) k (place_reached p q slot l h reached) step (forward q (l.place slot) k h step);
    }

fine_at : (p q : List (Option Insn)) (k : ℕ) (o : Option Insn) → IsLaidOut p q → IsWhole p → JumpsForward q → insn_at q k ≡ o → flow_fault_at q k ≡ None
fine_at p q k None l w h at = ap (insn_fault q k) at
fine_at p q k (Some i) l w h at = elim (l.only k i at) [
  | inl kept ↦
      let s = kept_sound p q kept.0 l w h kept.1 in
      subst (λ (n : ℕ). flow_fault_at q n ≡ None) kept.2 (sound_fine q (l.place kept.0) s.0 h s.1)
  | inr a ↦ sound_fine q k (insn.Jump a.5.0) h (added_sound p q k a.0 a.1 l w h a.2 a.3 a.4 a.5)
]

-- what is reached is an instruction
reached_there : (p : List (Option Insn)) → IsWellFormed p → ((k : ℕ) → IsReached p k → faults.edge_fault_at p k ≡ None)
    → (from : ℕ) (steps : List ℕ) (to : ℕ) → IsReached p from
    → is_none (insn_at p from) ≡ false → LeadBy p from steps to → is_none (insn_at p to) ≡ false
reached_there p formed fine from [] to reached there same = subst (λ (k : ℕ). is_none (insn_at p k) ≡ false) same there
reached_there p formed fine from (next ∷ rest) to reached there lead =
    let i = ordered_insn p from (insn_at p from) refl there in
    reached_there p formed fine next rest to (path_more p 0 from next reached lead.0) (edge_there p from next i.0 formed i.1 (fine from reached) lead.0) lead.1

pub flow_is_fine : (p q : List (Option Insn)) → IsLaidOut p q → IsWellFormed p
    → ((k : ℕ) → IsReached p k → faults.edge_fault_at p k ≡ None) → JumpsForward q → flow_fault q ≡ None
flow_is_fine p q l formed fine h =
    let w : IsWhole p = record {
      formed = formed;
      fine = fine;
      there = λ k reached. reached_there p formed fine 0 reached.steps k (path_none p 0) (slot_zero_is_insn p formed) reached.lead;
    } in
    lowest_none (flow_fault_at q) (length q) (λ k lt. fine_at p q k (insn_at q k) l w h refl)
