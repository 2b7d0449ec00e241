use Rattle.ebpf_command.proofs.KindLemmas.{AreRows-kinds}
use Rattle.ebpf_one.proofs.running.judged.Goals as goal

pub verify-requires : goal.verify-requires
verify-requires c = AreRows-kinds c.args.kinds.now c.requires.kinds
