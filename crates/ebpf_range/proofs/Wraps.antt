-- A sum that wraps once.
use Rattle.std.proofs.Common.{◌≡◌, ℕ, ◌-◌, ◌%◌, ◌*◌, ◌≤◌, ◌<◌, ◌∙◌, arith}
use Rattle.std.proofs.Math.Nat.{mod-eq-sub-mod, mod-eq_of_lt}

pub mod-wraps : (n m : ℕ) → m ≤ n → n < m * 2 → n % m ≡ n - m
mod-wraps n m above below = let once : n - m < m = omega arith in mod-eq-sub-mod above ∙ mod-eq_of_lt once
