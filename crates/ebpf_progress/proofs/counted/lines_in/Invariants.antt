use Rattle.std.proofs.Common.{◌≡◌, ◌≤◌, take}
use Rattle.ebpf_progress.specs.Counting.{lines_in}
use Rattle.ebpf_progress.proofs.counted.lines_in.Given as goal

abbrev pub invariant-loop-at : goal.invariant-loop-at
invariant-loop-at l = record {
  counted : l.lines ≡ lines_in (take l.at l.bytes);
  few : l.lines ≤ l.at;
}
