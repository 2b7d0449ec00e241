use Rattle.std.proofs.Common.{◌≡◌, take}
use Rattle.std.specs.Prelude.{map}
use Rattle.ebpf_show.specs.Copies.{item_at}
use Rattle.ebpf_show.proofs.copies.copied_items.Given as goal

abbrev pub invariant-loop-slot : goal.invariant-loop-slot
invariant-loop-slot g l = l.copied.items ≡ map (item_at l.items) (take l.slot-index l.of)
