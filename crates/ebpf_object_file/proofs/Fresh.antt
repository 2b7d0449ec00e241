-- A list of one value has it at each place, and beyond.
use Rattle.std.proofs.Common.{◌≡◌, ℕ, zero, suc, get_or, replicate, refl}

pub same_at : {A : Type 0} (n i : ℕ) (d : A) → get_or (replicate n d) i d ≡ d
same_at zero i d = refl
same_at (suc n) zero d = refl
same_at (suc n) (suc i) d = same_at n i d
