use Rattle.std.proofs.Common.{[], refl}
use Rattle.ebpf_explain.proofs.TextLemmas.{no_text, one_text}
use Rattle.ebpf_one.proofs.data_list.rows.Goals as goal

pub loop-slot-init : goal.loop-slot-init
loop-slot-init c = rw c.new-text.ensures.bytes (no_text [] _)

pub loop-slot-preserved : goal.loop-slot-preserved
loop-slot-preserved c = one_text [] _ _ _ _ _ refl c.loop-slot.invariant c.in_ok-write_row.ensures
