use Rattle.ebpf_command.proofs.KindLemmas.{AreRows-kinds}
use Rattle.ebpf_forward.proofs.forward.unroll_loops.Goals as goal

pub unroll-requires : goal.unroll-requires
unroll-requires c = AreRows-kinds c.args.kinds.now c.requires.kinds
