use Rattle.std.proofs.Common.{◌≡◌, ◌≤◌, take}
use Rattle.ebpf_show.specs.Copies.{visit_of}
use Rattle.ebpf_show.proofs.copies.visit_of.Given as goal

abbrev pub invariant-loop-copied : goal.invariant-loop-copied
invariant-loop-copied l = record {
  counted : l.visits ≡ visit_of (take l.copied-index l.of) l.slot;
  few : l.visits ≤ l.copied-index;
}
