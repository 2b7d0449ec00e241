-- What was claimed last leaves the list as it was, once it is released.
use Rattle.std.proofs.Common.{◌≡◌, ℕ, Bool, true, List, ◌∷◌, ap, arith}
use Rattle.std.specs.Prelude.{if◌then◌else◌, ◌==◌}
use Rattle.std.proofs.lemmas.Bool.Decides.{nat_tests}
use Rattle.owners_table.specs.Owning.{without}

same : (slot : ℕ) → (slot == slot) ≡ true
same slot = grind (arith, nat_tests)

pub without_first : (slot word : ℕ) (es : List (ℕ × ℕ)) → without slot ((slot, word) ∷ es) ≡ es
without_first slot word es = ap (λ (b : Bool). if b then es else (slot, word) ∷ without slot es) (same slot)
