use Rattle.std.proofs.Common.{ℕ, ◌<◌}
use Rattle.ebpf_link.specs.Words.{IsFreeAt}
use Rattle.ebpf_link.proofs.words.is_free.Given as goal

abbrev pub invariant-loop-slot : goal.invariant-loop-slot
invariant-loop-slot l = record {
  free : (k : ℕ) → k < l.slot → IsFreeAt l.fn.program l.fn.word k;
}
