use Rattle.std.proofs.Common.{◌≡◌, ◌<◌, ◌+◌, ℕ, false, length, slice_index_or}
use Rattle.ebpf_explain.specs.Loops.{led_by}
use Rattle.ebpf_explain.proofs.loops.is_led.Given as goal

abbrev pub invariant-loop-passed : goal.invariant-loop-passed
invariant-loop-passed l = record {
  len : length l.led.items ≡ l.fn.to + 1;
  marked : (k : ℕ) → k < l.fn.to + 1 → slice_index_or l.led.items k false ≡ led_by l.fn.program l.fn.from l.passed k;
}
