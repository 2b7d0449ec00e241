use Rattle.ebpf_core.proofs.Fresh.{tended_fresh}
use Rattle.ebpf_core.proofs.world.World.new.Goals as goal

pub invariant_of-result : goal.invariant_of-result
invariant_of-result c = rw (c.new.ensures.items, c.new-2.ensures, c.new-3.ensures, c.new-4.ensures, c.new-5.ensures.empty, c.empty.ensures)
    (tended_fresh c.args.programs.now c.requires.known)
