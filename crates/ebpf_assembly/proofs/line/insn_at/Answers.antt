use Rattle.ebpf_assembly.proofs.Labels.{no_insn}
use Rattle.ebpf_assembly.proofs.line.insn_at.Goals as goal

pub returns-in_default-read_insn-clause-refused : goal.returns-in_default-read_insn-clause-refused
returns-in_default-read_insn-clause-refused c = no_insn c.args.slot _ _ c.ranges.slot.fits c.requires.some c.in-Some.ensures c.in_default-read_insn.ensures
