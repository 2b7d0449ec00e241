use Rattle.std.proofs.Common.{◌≡◌, ◌≤◌, take}
use Rattle.std.specs.Prelude.{count_by, is_some}
use Rattle.ebpf_core.specs.Shown.{OfWorld}
use Rattle.ebpf_core.specs.Readers.{owner_in}
use Rattle.ebpf_report.proofs.world_text.held_of.Given as goal

abbrev pub invariant-loop-slot : goal.invariant-loop-slot
invariant-loop-slot l = record {
  few : l.held ≤ l.slot-index;
  counted : OfWorld l.world (λ w. l.held ≡ count_by (λ slot. is_some (owner_in w slot)) (take l.slot-index l.slot-items));
}
