use Rattle.ebpf_command.proofs.KindLemmas.{AreRows-kinds}
use Rattle.ebpf_forward.proofs.refused.refused_at_visit.Goals as goal

pub known_at_end-requires : goal.known_at_end-requires
known_at_end-requires c = AreRows-kinds c.args.kinds.now c.requires
