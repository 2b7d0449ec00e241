use Rattle.std.proofs.Common.{arith}
use Rattle.ebpf_text.proofs.ListingLemmas.{slot_more, all_lines}
use Rattle.ebpf_text.proofs.listing.listing.Goals as goal

pub loop-slot-preserved : goal.loop-slot-preserved
loop-slot-preserved c =
    slot_more _ _ _ _ (omega (arith, c.slots-slot-end.ensures.value, c.loop-slot-test.true)) c.in_ok-write_slot.ensures c.loop-slot.invariant

pub returns : goal.returns
returns c = all_lines _ _ _ (omega (arith, c.slots-slot-end.ensures.value)) c.loop-slot.invariant
