use Rattle.std.proofs.Common.{◌≡◌, ◌≤◌, take, count_by}
use Rattle.ebpf_verify.specs.CallCount.{is_counted}
use Rattle.ebpf_verify.specs.declared.call_count.Counted.TheVariants.{Calls, Swaps}
use Rattle.ebpf_verify.proofs.call_count.calls_in.Given as goal

abbrev pub invariant-loop-slot : goal.invariant-loop-slot
invariant-loop-slot l = record {
  calls : l.calls ≡ count_by (is_counted Calls) (take l.slot l.fn.program);
  swaps : l.swaps ≡ count_by (is_counted Swaps) (take l.slot l.fn.program);
  few_calls : l.calls ≤ l.slot;
  few_swaps : l.swaps ≤ l.slot;
}
