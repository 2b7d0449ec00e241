use Rattle.std.proofs.Common.{◌≡◌, ◌+◌, ◌≤◌, filter, length, take}
use Rattle.ebpf_machine.specs.Whole.{is_granted, is_null, is_fetched}
use Rattle.ebpf_host_c.specs.Reported.{is_empty}
use Rattle.ebpf_host_c.proofs.reported.counts_of.Given as goal

abbrev pub invariant-loop-reply : goal.invariant-loop-reply
invariant-loop-reply l = record {
  granted : l.granted ≡ length (filter is_granted (take l.reply-index l.replies));
  refused : l.refused ≡ length (filter is_null (take l.reply-index l.replies));
  fetched : l.fetched ≡ length (filter is_fetched (take l.reply-index l.replies));
  missed : l.missed ≡ length (filter is_empty (take l.reply-index l.replies));
  few : l.granted + l.refused + l.fetched + l.missed ≤ l.reply-index;
}
