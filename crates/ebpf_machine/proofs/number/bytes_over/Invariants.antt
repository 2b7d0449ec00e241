use Rattle.std.proofs.Common.{◌≡◌, ◌<◌, ◌+◌, ◌++◌, ℕ, length, slice_index}
use Rattle.ebpf_machine.proofs.number.bytes_over.Given as goal

abbrev pub invariant-bytes : goal.invariant-bytes
invariant-bytes l = record {
  long : length l.bytes ≡ 8;
  each : (k : ℕ) → k < l.k → slice_index l.bytes k ≡ slice_index (l.fn.first ++ l.fn.after) (l.place + k);
}
