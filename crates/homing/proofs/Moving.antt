-- Objects that move: how many there are then.
use Rattle.std.proofs.Common.{◌≡◌, ◌+◌, List, ◌∷◌, ◌++◌, length, length-append, arith}
use Rattle.std.specs.List.Sorted.{IsPermutation}
use Rattle.std.proofs.lemmas.List.Sorted.{length_permutation}

module _ {X : Type 0} where
  -- one element came
  pub one_more : (x : X) (old new : List X) → IsPermutation (x ∷ old) new → length new ≡ length old + 1
  one_more x old new moved = omega (arith, length_permutation (x ∷ old) new moved)

  -- a whole list left
  pub list_less : (out old new : List X) → IsPermutation old (out ++ new) → length old ≡ length out + length new
  list_less out old new moved = omega (arith, length_permutation old (out ++ new) moved, length-append out new)

  -- a whole list came
  pub list_more : (back old new : List X) → IsPermutation (back ++ old) new → length new ≡ length back + length old
  list_more back old new moved = omega (arith, length_permutation (back ++ old) new moved, length-append back old)
