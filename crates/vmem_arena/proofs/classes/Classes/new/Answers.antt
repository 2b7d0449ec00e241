use Rattle.std.proofs.Common.{inr, ◌/◌, replicate}
use Rattle.std.proofs.lemmas.Nat.Bits.{bit_at-zero}
use Rattle.vmem_arena.proofs.Places.{zeros, none_in_zero}
use Rattle.vmem_arena.proofs.classes.Classes.new.Goals as goal

pub invariant_of-result : goal.invariant_of-result
invariant_of-result c = λ w. inr (bit_at-zero w, zeros 36 w)

pub returns : goal.returns
returns c = λ i. none_in_zero (replicate 36 0) i (zeros 36 (i / 64))
