-- A list of zeros has zero at each place.
use Rattle.std.proofs.Common.{◌≡◌, ℕ, zero, suc, get_or, replicate, refl}

pub zeros_at : (n slot : ℕ) → get_or {A = ℕ} (replicate n 0) slot 0 ≡ 0
zeros_at zero slot = refl
zeros_at (suc n) zero = refl
zeros_at (suc n) (suc slot) = zeros_at n slot
