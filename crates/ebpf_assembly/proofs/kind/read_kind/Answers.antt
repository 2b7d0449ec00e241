use Rattle.ebpf_assembly.proofs.KindWords.{no_kind}
use Rattle.ebpf_assembly.proofs.kind.read_kind.Goals as goal

pub returns-in_default : goal.returns-in_default
returns-in_default c = no_kind _ c.in_default.ensures.cases.0
