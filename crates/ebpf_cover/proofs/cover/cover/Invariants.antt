use Rattle.std.proofs.Common.{◌≡◌, drop}
use Rattle.ebpf_cover.proofs.Summing.{HaveCounted}
use Rattle.ebpf_cover.proofs.cover.cover.Given as goal

abbrev pub invariant-covered : goal.invariant-covered
invariant-covered l = record {
  left : l.left ≡ drop l.index l.fn.reports;
  counted : HaveCounted l.fn.accepted l.tallies.items l.fn.jobs l.fn.reports l.index;
}
