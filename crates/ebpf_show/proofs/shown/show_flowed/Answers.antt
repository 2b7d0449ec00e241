use Rattle.ebpf_command.proofs.KindLemmas.{AreRows-kinds}
use Rattle.ebpf_show.proofs.shown.show_flowed.Goals as goal

pub of-requires : goal.of-requires
of-requires c = AreRows-kinds c.args.kinds.now c.requires
