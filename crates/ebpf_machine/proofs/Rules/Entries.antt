-- What a lower slot sends comes to a slot.
use Rattle.std.proofs.Common.{◌≡◌, ℕ, zero, suc, ◌<◌, Bool, true, false, cond, eqb, List, Option, Some, None, refl, subst, arith, inl, inr}
use Rattle.std.proofs.lemmas.Bool.{cases_lt}
use Rattle.std.proofs.lemmas.Bool.Decides.{nat_tests}
use Rattle.ebpf_insn.specs.declared.insn.Insn.{Insn}
use Rattle.ebpf_insn.specs.Program.{insn_at}
use Rattle.ebpf_flow.specs.declared.edges.Edges.{Edges}
use Rattle.ebpf_flow.specs.Edges.{edges_at, edges_of, leads_to, fall_of, jump_of}
use Rattle.ebpf_insn.specs.Encoding.{IsDefined}
use Rattle.ebpf_state.specs.StateView.{StateView}
use Rattle.ebpf_state.specs.States.{first_state}
use Rattle.ebpf_verify.specs.declared.entry.EntryState.{EntryState}
use Rattle.ebpf_verify.specs.declared.entry.EntryState.TheVariants.{Unreached, Known, Conflict}
use Rattle.ebpf_verify.specs.Rules.{after_fall, after_jump}
use Rattle.ebpf_verify.specs.Entry.{with_edge, with_sent, arrived, entry_of}
use Rattle.ebpf_machine.specs.Values.{Frame}
use Rattle.ebpf_machine.specs.View.{ObjectView}
use Rattle.ebpf_machine.specs.Concretization.{AreOf, Arrives}
use Rattle.ebpf_verify.proofs.Bounded.{IsFull, first-full}
use Rattle.ebpf_verify.proofs.RulesBounded.{IsFullState, fall-full, jump-full}
use Rattle.ebpf_machine.proofs.Rules.Joins.{IsWhole, whole_weaker, IsWhole-with_state, Arrives-with_state_old, Arrives-with_state_new}

-- the instructions of a program have an encoding
abbrev pub AreDefined : List (Option Insn) → Type 0
AreDefined p = (k : ℕ) (i : Insn) → insn_at p k ≡ Some i → IsDefined i

IsWhole-with_edge : (slot : ℕ) (o : Option StateView) (leads : Bool) (a : EntryState) → IsFullState slot o → IsWhole slot a
    → IsWhole slot (with_edge o leads a)
IsWhole-with_edge slot None leads a w v = v
IsWhole-with_edge slot (Some s) true a w v = IsWhole-with_state slot a s v w
IsWhole-with_edge slot (Some s) false a w v = v

old_by_edge : (slot : ℕ) (o : Option StateView) (leads : Bool) (a : EntryState) (frame : Frame ℕ) (objects : List ObjectView)
    → IsFullState slot o → IsWhole slot a → Arrives a frame objects → Arrives (with_edge o leads a) frame objects
old_by_edge slot None leads a frame objects w v h = h
old_by_edge slot (Some s) true a frame objects w v h = Arrives-with_state_old slot a s frame objects v w h
old_by_edge slot (Some s) false a frame objects w v h = h

new_by_edge : (slot : ℕ) (o : Option StateView) {s : StateView} (leads : Bool) (a : EntryState) {frame : Frame ℕ} {objects : List ObjectView}
    → o ≡ Some s → leads ≡ true → IsFull slot s → IsWhole slot a → AreOf s frame objects
    → Arrives (with_edge o leads a) frame objects
new_by_edge slot o {s} leads a {frame} {objects} carries e w v h = rw (carries, e) (Arrives-with_state_new slot a s frame objects v w h)

-- what a lower slot sends, and what came before it
IsWhole-sent : (i : Insn) (e : Edges) (from to : ℕ) (s : StateView) (old : EntryState) → IsDefined i → IsFull from s
    → IsWhole (suc from) old → IsWhole (suc from) (with_edge (after_jump i s) (leads_to e.jump to) old)
IsWhole-sent i e from to s old d w v = IsWhole-with_edge (suc from) (after_jump i s) (leads_to e.jump to) old (jump-full from i s d w) v

IsWhole-with_sent : (o : Option Insn) (e : Edges) (from to : ℕ) (a old : EntryState) → ((i : Insn) → o ≡ Some i → IsDefined i)
    → IsWhole from a → IsWhole (suc from) old → IsWhole (suc from) (with_sent o e from to a old)
IsWhole-with_sent None e from to a old d w v = v
IsWhole-with_sent (Some i) e from to Unreached old d w v = v
IsWhole-with_sent (Some i) e from to Conflict old d w v = v
IsWhole-with_sent (Some i) e from to (Known s) old d w v =
    IsWhole-with_edge (suc from) (after_fall from i s) (leads_to e.fall to) (with_edge (after_jump i s) (leads_to e.jump to) old)
    (fall-full from i s (d i refl) w) (IsWhole-sent i e from to s old (d i refl) w v)

old_by_sent : (o : Option Insn) (e : Edges) (from to : ℕ) (a old : EntryState) (frame : Frame ℕ) (objects : List ObjectView)
    → ((i : Insn) → o ≡ Some i → IsDefined i) → IsWhole from a → IsWhole (suc from) old → Arrives old frame objects
    → Arrives (with_sent o e from to a old) frame objects
old_by_sent None e from to a old frame objects d w v h = h
old_by_sent (Some i) e from to Unreached old frame objects d w v h = h
old_by_sent (Some i) e from to Conflict old frame objects d w v h = h
old_by_sent (Some i) e from to (Known s) old frame objects d w v h =
    old_by_edge (suc from) (after_fall from i s) (leads_to e.fall to) (with_edge (after_jump i s) (leads_to e.jump to) old) frame objects
    (fall-full from i s (d i refl) w) (IsWhole-sent i e from to s old (d i refl) w v)
    (old_by_edge (suc from) (after_jump i s) (leads_to e.jump to) old frame objects (jump-full from i s (d i refl) w) v h)

IsWhole-first : (b : Bool) → IsWhole 0 (cond b (Known first_state) Unreached)
IsWhole-first true = first-full
IsWhole-first false = tt

pub IsWhole-arrived : (p : List (Option Insn)) (m to : ℕ) → AreDefined p → IsWhole m (arrived p m to)
unfolding arrived
IsWhole-arrived p zero to d = IsWhole-first (eqb to 0)
IsWhole-arrived p (suc m) to d =
    IsWhole-with_sent (insn_at p m) (edges_at p m) m to (arrived p m m) (arrived p m to) (d m) (IsWhole-arrived p m m d)
    (whole_weaker m (suc m) (arrived p m to) (omega arith) (IsWhole-arrived p m to d))

IsWhole-before : (p : List (Option Insn)) (m to : ℕ) → AreDefined p → IsWhole (suc m) (arrived p m to)
IsWhole-before p m to d = whole_weaker m (suc m) (arrived p m to) (omega arith) (IsWhole-arrived p m to d)

-- what a lower slot sends comes in
sent_arrives : (p : List (Option Insn)) (m j to : ℕ) (frame : Frame ℕ) (objects : List ObjectView) → AreDefined p → j < m
    → Arrives (with_sent (insn_at p j) (edges_at p j) j to (entry_of p j) (arrived p j to)) frame objects
    → Arrives (arrived p m to) frame objects
unfolding arrived
sent_arrives p zero j to frame objects d lt h = absurd (omega arith)
sent_arrives p (suc m) j to frame objects d lt h =
    elim (cases_lt j m) [
      | inl less ↦
          old_by_sent (insn_at p m) (edges_at p m) m to (arrived p m m) (arrived p m to) frame objects (d m) (IsWhole-arrived p m m d)
          (IsWhole-before p m to d) (sent_arrives p m j to frame objects d less h)
      | inr more ↦ let same : j ≡ m =
          omega arith in subst (λ (n : ℕ). Arrives (with_sent (insn_at p n) (edges_at p n) n to (arrived p n n) (arrived p n to)) frame objects) same h
    ]

eqb_same : (n : ℕ) → eqb n n ≡ true
eqb_same n = grind (arith, nat_tests)

-- an instruction of a program, and the state that is known before it
pub record IsEntered (p : List (Option Insn)) (from : ℕ) (i : Insn) (s : StateView) : Type 0 where
  pub defined : AreDefined p
  pub at : insn_at p from ≡ Some i
  pub entered : entry_of p from ≡ Known s
  pub full : IsFull from s

-- the state that an instruction sends to the slot after it speaks of a run that goes there
pub fall_arrives : {p : List (Option Insn)} {from : ℕ} (to : ℕ) {i : Insn} {s after : StateView} {frame : Frame ℕ} {objects : List ObjectView}
    → IsEntered p from i s → after_fall from i s ≡ Some after → fall_of i from ≡ Some to → from < to
    → AreOf after frame objects → Arrives (entry_of p to) frame objects
fall_arrives {p} {from} to {i} {s} {frame = frame} {objects = objects} e makes edge lt h =
    let d = e.defined in
    let leads : leads_to (fall_of i from) to ≡ true = rw edge (eqb_same to) in
    let full = subst (IsFullState (suc from)) makes (fall-full from i s (d from i e.at) e.full) in
    sent_arrives p to from to frame objects d lt
    (rw (e.at, e.entered) (new_by_edge (suc from) (after_fall from i s) (leads_to (fall_of i from) to)
    (with_edge (after_jump i s) (leads_to (jump_of i from) to) (arrived p from to)) makes leads full
    (IsWhole-sent i (edges_of (Some i) from) from to s (arrived p from to) (d from i e.at) e.full (IsWhole-before p from to d)) h))

-- and the one that it sends to the target of its jump, of a run that jumps
pub jump_arrives : {p : List (Option Insn)} {from : ℕ} (to : ℕ) {i : Insn} {s after : StateView} {frame : Frame ℕ} {objects : List ObjectView}
    → IsEntered p from i s → after_jump i s ≡ Some after → jump_of i from ≡ Some to → from < to
    → AreOf after frame objects → Arrives (entry_of p to) frame objects
jump_arrives {p} {from} to {i} {s} {frame = frame} {objects = objects} e makes edge lt h =
    let d = e.defined in
    let leads : leads_to (jump_of i from) to ≡ true = rw edge (eqb_same to) in
    let full = subst (IsFullState (suc from)) makes (jump-full from i s (d from i e.at) e.full) in
    let came = new_by_edge (suc from) (after_jump i s) (leads_to (jump_of i from) to) (arrived p from to) makes leads full (IsWhole-before p from to d) h in
    sent_arrives p to from to frame objects d lt
    (rw (e.at, e.entered) (old_by_edge (suc from) (after_fall from i s) (leads_to (fall_of i from) to)
    (with_edge (after_jump i s) (leads_to (jump_of i from) to) (arrived p from to)) frame objects (fall-full from i s (d from i e.at) e.full)
    (IsWhole-sent i (edges_of (Some i) from) from to s (arrived p from to) (d from i e.at) e.full (IsWhole-before p from to d)) came))

-- the first state comes to slot 0
pub first_arrives : (p : List (Option Insn)) {frame : Frame ℕ} {objects : List ObjectView} → AreOf first_state frame objects
    → Arrives (entry_of p 0) frame objects
unfolding arrived
first_arrives p h = h
