-- A register is followed back, step by step.
use Rattle.std.proofs.Common.{◌≡◌, ◌<◌, ◌≤◌, ℕ, zero, suc, ◌+◌, ◌-◌, List, Option, Some, None, sym, ap, ◌∙◌, arith}
use Rattle.ebpf_insn.specs.declared.insn.Insn.{Insn}
use Rattle.ebpf_insn.specs.declared.register.Reg.{Reg}
use Rattle.ebpf_verify.specs.declared.entry.EntryState.{EntryState}
use Rattle.ebpf_explain.specs.declared.loss.Trail.{Trail}
use Rattle.ebpf_explain.specs.declared.loss.Trail.TheVariants.{Here, From, Nowhere}
use Rattle.ebpf_explain.specs.Loss.{follow, lost_within, trail_at}

module _ (p : List (Option Insn)) (entries : List EntryState) (r : Reg) where
  -- one of the steps that are left
  one_more : (n k at : ℕ) → k < n → lost_within p entries r (n - k) at ≡ follow (λ from. lost_within p entries r (n - (k + 1)) from) at (trail_at p entries r at)
  unfolding lost_within
  one_more n k at h = let left : n - k ≡ suc (n - (k + 1)) = omega (arith, h) in ap (λ (m : ℕ). lost_within p entries r m at) left

  step_to : (n k at : ℕ) (t : Trail) → k < n → t ≡ trail_at p entries r at
      → lost_within p entries r (n - k) at ≡ follow (λ from. lost_within p entries r (n - (k + 1)) from) at t
  step_to n k at t h is = one_more n k at h ∙ ap (follow (λ from. lost_within p entries r (n - (k + 1)) from) at) (sym is)

  pub is_here : (n k at : ℕ) (t : Trail) (o : Option ℕ) → k < n → t ≡ trail_at p entries r at → t ≡ Here → lost_within p entries r (n - k) at ≡ o → Some at ≡ o
  is_here n k at t o h is here same = sym (step_to n k at t h is ∙ ap (follow (λ from. lost_within p entries r (n - (k + 1)) from) at) here) ∙ same

  pub is_from : (n k at from : ℕ) (t : Trail) (o : Option ℕ) → k < n → t ≡ trail_at p entries r at → t ≡ From from → lost_within p entries r (n - k) at ≡ o
      → lost_within p entries r (n - (k + 1)) from ≡ o
  is_from n k at from t o h is goes same = sym (step_to n k at t h is ∙ ap (follow (λ from. lost_within p entries r (n - (k + 1)) from) at) goes) ∙ same

  pub is_nowhere : (n k at : ℕ) (t : Trail) (o : Option ℕ) → k < n → t ≡ trail_at p entries r at → t ≡ Nowhere → lost_within p entries r (n - k) at ≡ o → None ≡ o
  is_nowhere n k at t o h is ends same = sym (step_to n k at t h is ∙ ap (follow (λ from. lost_within p entries r (n - (k + 1)) from) at) ends) ∙ same

  -- no step is left
  pub none_left : (n k at : ℕ) (o : Option ℕ) → n ≤ k → lost_within p entries r (n - k) at ≡ o → None ≡ o
  unfolding lost_within
  none_left n k at o h same = let left : n - k ≡ zero = omega (arith, h) in sym (ap (λ (m : ℕ). lost_within p entries r m at) left) ∙ same
