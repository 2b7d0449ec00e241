use Rattle.std.proofs.Common.{◌∙◌}
use Rattle.ebpf_one.proofs.Sources.{sourced_none, sourced_more}
use Rattle.ebpf_one.proofs.source_list.sourced.Goals as goal

pub loop-slot-init : goal.loop-slot-init
loop-slot-init c = c.new-text.ensures.bytes ∙ sourced_none c.args.format _ _ _

pub loop-slot-preserved : goal.loop-slot-preserved
loop-slot-preserved c =
    sourced_more c.args.format _ _ _ _ _ _ _ _ _ c.loop-slot.invariant c.held_before-before.ensures c.held_at.ensures c.in_ok-write_heading.ensures c.in_ok-write_insn_in.ensures
