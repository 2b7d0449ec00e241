use Rattle.std.proofs.Common.{◌≡◌, ◌≤◌, length}
use Rattle.ebpf_host.specs.Copying.{copied}
use Rattle.ebpf_host_c.specs.Functions.{rows_below}
use Rattle.ebpf_host_c.proofs.functions.give.Given as goal

abbrev pub invariant-loop-number : goal.invariant-loop-number
invariant-loop-number l = record {
  written : l.rows ≡ copied (rows_below l.functions l.number) l.initial.rows;
  counted : l.count ≡ length (rows_below l.functions l.number);
  few : l.count ≤ l.number;
}
