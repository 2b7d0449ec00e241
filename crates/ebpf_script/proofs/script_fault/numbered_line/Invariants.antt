use Rattle.std.proofs.Common.{◌≡◌, ◌≤◌, length}
use Rattle.ebpf_script.proofs.script_fault.numbered_line.Given as goal

abbrev pub invariant-loop-line : goal.invariant-loop-line
invariant-loop-line l = record {
  counted : l.place ≡ length l.yielded;
  before : l.place ≤ l.index;
}
