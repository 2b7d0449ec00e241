use Rattle.std.proofs.Common.{w64, arith}
use Rattle.std.proofs.lemmas.Nat.Bits.{bit_at_clear_same}
use Rattle.vmem_arena.proofs.Bits.{cleared_other}
use Rattle.vmem_arena.proofs.word.without_bit.Goals as goal

pub returns-clause-clear : goal.returns-clause-clear
returns-clause-clear c = bit_at_clear_same w64 _ _ c.requires

pub returns-clause-others : goal.returns-clause-others
returns-clause-others c = λ i other. cleared_other c.args.word c.args.bit i c.requires (omega arith) other
