-- Jumps of a program whose flow has no fault lead forward.
use Rattle.std.proofs.Common.{◌≡◌, ℕ, ◌<◌, ℤ, false, List, length, Option, Some, None, refl, sym, subst, arith}
use Rattle.std.specs.Prelude.{nat_le}
use Rattle.std.proofs.lemmas.Bool.Decides.{nat_tests}
use Rattle.std.proofs.lemmas.Option.{none-some}
use Rattle.ebpf_insn.specs.declared.insn.Insn.{Insn}
use Rattle.ebpf_insn.specs.Program.{insn_at}
use Rattle.ebpf_insn.proofs.ProgramLemmas.{insn_at_within}
use Rattle.ebpf_insn.proofs.FaultLemmas.{none_first, none_below}
use Rattle.ebpf_flow.specs.Edges.{displacement_of, jump_of}
use Rattle.ebpf_flow.specs.Flow.{is_outside, is_second_half, is_backward, jump_fault, fall_fault, insn_fault, flow_fault, flow_fault_at, or_else}

first_none : {C : Type 0} (first other : Option C) → or_else first other ≡ None → first ≡ None
first_none (Some code) other e = absurd (none-some code (sym e))
first_none None other e = refl

-- a target that is not refused is after the jump
target_there : (p : List (Option Insn)) (k : ℕ) (z : ℤ) (o : Option ℕ) → jump_fault p k (Some z) o ≡ None → (to : ℕ) × (o ≡ Some to) × (k < to)
target_there p k z None e = absurd (cc)
target_there p k z (Some to) e =
    let inside = none_first (is_outside p (Some to)) _ _ e in
    let first_half = none_first (is_second_half p (Some to)) _ _ inside.1 in
    let forward = none_first (is_backward k (Some to)) _ _ first_half.1 in
    (to, refl, behind to forward.0)
  where
    behind : (to : ℕ) → nat_le to k ≡ false → k < to
    behind to e = grind (arith, nat_tests)

pub jump_leads : (p : List (Option Insn)) (k : ℕ) (i : Insn) (z : ℤ) → flow_fault p ≡ None → insn_at p k ≡ Some i
    → displacement_of i ≡ Some z → (to : ℕ) × (jump_of i k ≡ Some to) × (k < to)
jump_leads p k i z fine at by =
    let here : insn_fault p k (Some i) ≡ None =
    subst (λ (o : Option Insn). insn_fault p k o ≡ None) at (none_below (flow_fault_at p) (length p) fine k (insn_at_within p k i at)) in
    let jumps = first_none (jump_fault p k (displacement_of i) (jump_of i k)) (fall_fault p k i) here in
    target_there p k z (jump_of i k) (subst (λ (o : Option ℤ). jump_fault p k o (jump_of i k) ≡ None) by jumps)
