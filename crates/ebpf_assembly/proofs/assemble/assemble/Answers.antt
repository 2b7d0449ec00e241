use Rattle.ebpf_assembly.proofs.WithoutLabels.{named_only, named_back}
use Rattle.ebpf_assembly.proofs.assemble.assemble.Goals as goal

pub returns-clause-only : goal.returns-clause-only
returns-clause-only c = named_only c.args.text.now c.read_text.result c.read_text.ensures.ok c.read_text.ensures.refused

pub returns-clause-back : goal.returns-clause-back
returns-clause-back c = named_back c.args.text.now c.read_text.result c.read_text.ensures.ok c.read_text.ensures.refused
