use Rattle.ebpf_assembly.proofs.Labelling.{same_label}
use Rattle.ebpf_assembly.proofs.label.before_colon.Goals as goal

pub returns : goal.returns
returns c = same_label c.label.result c.args.word.now c.label.ensures
