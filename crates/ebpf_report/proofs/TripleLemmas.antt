-- A list of three items.
use Rattle.std.proofs.Common.{◌≡◌, List, [], ◌∷◌, length, get_or, refl, arith}

-- three items are the list of them
pub three : {X : Type 0} (xs : List X) (a b c : X) → length xs ≡ 3 → get_or xs 0 a ∷ get_or xs 1 b ∷ get_or xs 2 c ∷ [] ≡ xs
three [] a b c len = absurd (omega (arith, len))
three (x ∷ []) a b c len = absurd (omega (arith, len))
three (x ∷ y ∷ []) a b c len = absurd (omega (arith, len))
three (x ∷ y ∷ z ∷ []) a b c len = refl
three (x ∷ y ∷ z ∷ w ∷ rest) a b c len = absurd (omega (arith, len))
