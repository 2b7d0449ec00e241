-- Texts of numbers, one after another: of none, and of one more.
use Rattle.std.proofs.Common.{◌≡◌, ℕ, ◌+◌, List, [], ◌++◌, sym, ap, ◌∙◌, append_assoc, add-one, arith}
use Rattle.std.proofs.lemmas.Grind.{common_steps}
use Rattle.ebpf_report.specs.Below.{below}

nothing : (xs : List ℕ) → xs ++ [] ≡ xs
nothing xs = grind (arith, common_steps)

pub below_none : (text : ℕ → List ℕ) (before : List ℕ) → before ≡ before ++ below text 0
unfolding below
below_none text before = sym (nothing before)

pub below_more : (text : ℕ → List ℕ) (before now new : List ℕ) (n : ℕ) → now ≡ before ++ below text n → new ≡ now ++ text n
    → new ≡ before ++ below text (n + 1)
unfolding below
below_more text before now new n h k =
    rw add-one (k ∙ (ap (λ (xs : List ℕ). xs ++ text n) h ∙ append_assoc before (below text n) (text n)))
