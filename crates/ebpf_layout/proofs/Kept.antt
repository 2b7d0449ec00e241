-- A program whose flow has no fault is itself laid out anew.
use Rattle.std.proofs.Common.{◌≡◌, ℕ, zero, suc, ◌+◌, ◌<◌, ℤ, pos, List, [], ◌∷◌, ◌++◌, length, take, Option, Some, None, Bool, true, false, refl}
use Rattle.std.proofs.Common.{sym, ap, ◌∙◌, subst, arith, inl, inr, add-one}
use Rattle.std.specs.Prelude.{is_none, ◌&&◌, not, nat_le}
use Rattle.std.proofs.lemmas.Bool.{or_cases, eqb-true}
use Rattle.std.proofs.lemmas.Option.{none-some, same_Some}
use Rattle.ebpf_insn.specs.declared.insn.Insn.{Insn}
use Rattle.ebpf_insn.specs.declared.insn.Insn.TheVariants as insn
use Rattle.ebpf_insn.specs.Program.{insn_at, slots_in}
use Rattle.ebpf_insn.specs.Encoding.{IsWellFormed}
use Rattle.ebpf_insn.proofs.FaultLemmas.{none_first, none_below}
use Rattle.ebpf_flow.specs.declared.fault.FlowCode.TheVariants.{JumpOutside, JumpIntoWide, FallsOffEnd, Unreachable}
use Rattle.ebpf_flow.specs.Edges.{falls, displacement_of, target_of, jump_of, edges_at, has_edge_to, reached_by, is_reached}
use Rattle.ebpf_flow.specs.Flow.{is_outside, is_second_half, jump_fault, fall_fault, insn_fault, flow_fault_at, flow_fault}
use Rattle.ebpf_flow.proofs.Next.{slot_zero_is_insn}
use Rattle.ebpf_flow.proofs.Reach.{reached_by-none, reached_by-more}
use Rattle.ebpf_layout.specs.Paths.{LeadBy, IsReached}
use Rattle.ebpf_layout.specs.EdgeFaults as faults
use Rattle.ebpf_layout.specs.Layout.{moved, IsLaidOut, IsLaidAs, copied_in}
use Rattle.ebpf_layout.specs.Search.{if_there}
use Rattle.ebpf_layout.specs.Writing.{AreOwn}
use Rattle.ebpf_layout.proofs.CopiedSlots.{copied_inside}
use Rattle.ebpf_layout.proofs.PathLemmas.{path_none, path_more}
use Rattle.ebpf_layout.proofs.Searching.{there_inside}
use Rattle.ebpf_layout.proofs.Reaching.{none_of, ordered_insn, edge_there}

-- an instruction with its own displacement
moved_same : (i : Insn) → (z : ℤ) × (moved i z ≡ i)
moved_same (insn.Jump offset) = (offset, refl)
moved_same (insn.JumpFar offset) = (offset, refl)
moved_same (insn.Branch width condition left right offset) = (offset, refl)
moved_same _ = (pos 0, refl)

both : (a b : Bool) → (a && b) ≡ true → (a ≡ true) × (b ≡ true)
both true b e = (refl, e)
both false b e = absurd (cc)

is_true : (b : Bool) → not b ≡ false → b ≡ true
is_true true e = refl
is_true false e = absurd (cc)

path_of : (p : List (Option Insn)) (m to : ℕ) → reached_by p m to ≡ true → IsReached p to
path_of p zero to e = subst (IsReached p) (sym (eqb-true to 0 (sym (reached_by-none p to) ∙ e))) (path_none p 0)
path_of p (suc m) to e =
    let e' : reached_by p (m + 1) to ≡ true = subst (λ (k : ℕ). reached_by p k to ≡ true) (sym (add-one m)) e in
    elim (or_cases (reached_by p m m && has_edge_to (edges_at p m) to) (reached_by p m to) (reached_by-more p m to (reached_by p m to) refl ∙ e')) [
      | inl here ↦ let b = both (reached_by p m m) (has_edge_to (edges_at p m) to) here in path_more p 0 m to (path_of p m m b.0) b.1
      | inr before ↦ path_of p m to before
    ]

jump_fine : (p : List (Option Insn)) (slot : ℕ) (d : Option ℤ) → jump_fault p slot d (target_of d slot) ≡ None → faults.jump_fault p slot d ≡ None
jump_fine p slot None e = refl
jump_fine p slot (Some z) e =
    let a = none_first (is_outside p (target_of (Some z) slot)) JumpOutside _ e in
    let b = none_first (is_second_half p (target_of (Some z) slot)) JumpIntoWide _ a.1 in
    rw (a.0, b.0) refl

-- where a slot copies itself, an instruction begins
itself : (o : Option Insn) (k slot : ℕ) → if_there o k ≡ Some slot → (is_none o ≡ false) × (k ≡ slot)
itself None k slot e = absurd (none-some slot e)
itself (Some i) k slot e = (refl, same_Some k slot e)

module _ (p : List (Option Insn)) (formed : IsWellFormed p) (fine : flow_fault p ≡ None) where
  at_insn : (slot : ℕ) (i : Insn) → insn_at p slot ≡ Some i → (faults.edge_fault_at p slot ≡ None) × IsReached p slot
  at_insn slot i at =
      let here = none_below (flow_fault_at p) (length p) fine slot (there_inside p slot (ap is_none at)) in
      let parts = none_of (jump_fault p slot (displacement_of i) (jump_of i slot)) (fall_fault p slot i)
      (subst (λ (o : Option Insn). insn_fault p slot o ≡ None) at here) in
      let falls_on = none_first (falls i && nat_le (length p) (slot + slots_in i)) FallsOffEnd _ parts.1 in
      let reached = none_first (not (is_reached p slot)) Unreachable _ falls_on.1 in (
        subst (λ (o : Option Insn). faults.edge_fault p slot o ≡ None) (sym at) (rw (jump_fine p slot (displacement_of i) parts.0, falls_on.0) refl),
        path_of p slot slot (is_true (is_reached p slot) reached.0),
      )

  walk : (from : ℕ) (steps : List ℕ) (to : ℕ) → is_none (insn_at p from) ≡ false → LeadBy p from steps to → is_none (insn_at p to) ≡ false
  walk from [] to there same = subst (λ (k : ℕ). is_none (insn_at p k) ≡ false) same there
  walk from (next ∷ rest) to there lead =
      let i = ordered_insn p from (insn_at p from) refl there in
      walk next rest to (edge_there p from next i.0 formed i.1 (at_insn from i.0 i.1).0 lead.0) lead.1

  there : (slot : ℕ) → IsReached p slot → is_none (insn_at p slot) ≡ false
  there slot reached = walk 0 reached.steps slot (slot_zero_is_insn p formed) reached.lead

  pub kept : IsLaidOut p p
  kept = record {
    place = λ k. k;
    first = refl;
    apart = λ a b e. e;
    there = there;
    led = λ slot reached. let i = ordered_insn p slot (insn_at p slot) refl (there slot reached) in (at_insn slot i.0 i.1).0;
    same = λ slot i reached at. let m = moved_same i in (m.0, at ∙ ap Some (sym m.1));
    jumps = λ slot to reached e. e;
    falls = λ slot to reached e. (to, e, inl refl);
    only = λ at i e. inl (at, (at_insn at i e).1, refl);
  }

  pub kept_as : (of : List (Option ℕ)) → length of ≡ length p → AreOwn p of → IsLaidAs p p (copied_in of)
  unfolding kept
  kept_as of even own = record {
    laid_out = kept;
    copied = λ at slot e.
        let same = itself (insn_at p at) at slot (sym (own at (copied_inside of at slot e)) ∙ e) in
        let i = ordered_insn p at (insn_at p at) refl same.0 in
        (subst (IsReached p) same.1 (at_insn at i.0 i.1).1, sym same.1);
    all = λ slot reached.
        let here = there slot reached in
        let i = ordered_insn p slot (insn_at p slot) refl here in
        own slot (omega (arith, there_inside p slot here, even)) ∙ ap (λ (o : Option Insn). if_there o slot) i.1;
  }

-- one slot more
pub take_next : (p : List (Option Insn)) (k : ℕ) → k < length p → take (k + 1) p ≡ take k p ++ insn_at p k ∷ []
take_next [] k lt = absurd (omega arith)
take_next (x ∷ xs) zero lt = refl
take_next (x ∷ xs) (suc k) lt =
    let n : suc k + 1 ≡ suc (k + 1) = omega arith in ap (λ (m : ℕ). take m (x ∷ xs)) n ∙ ap (λ (l : List (Option Insn)). x ∷ l) (take_next xs k (omega arith))
