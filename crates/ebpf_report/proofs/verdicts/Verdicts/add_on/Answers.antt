use Rattle.ebpf_command.proofs.KindLemmas.{AreRows-kinds}
use Rattle.ebpf_report.proofs.verdicts.Verdicts.add_on.Goals as goal

pub examine-requires : goal.examine-requires
examine-requires c = AreRows-kinds c.args.kinds.now c.requires
