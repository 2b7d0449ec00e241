use Rattle.std.proofs.Common.{◌≡◌, length}
use Rattle.ebpf_layout.specs.Writing.{AreCopied}
use Rattle.ebpf_layout.proofs.copied.copied_slots.Given as goal

abbrev pub invariant-loop-number : goal.invariant-loop-number
invariant-loop-number l = record {
  all : length l.of.items ≡ l.len;
  copied : AreCopied l.order l.places l.number l.of.items;
}
