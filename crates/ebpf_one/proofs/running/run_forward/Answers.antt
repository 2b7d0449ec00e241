use Rattle.std.proofs.Common.{◌∙◌, ap}
use Rattle.ebpf_machine.specs.World.{kinds_of}
use Rattle.ebpf_machine.proofs.Instructions.KindLemmas.{kinds_known}
use Rattle.ebpf_one.proofs.running.run_forward.Goals as goal

pub answer_copied-requires-clause-kinds : goal.answer_copied-requires-clause-kinds
answer_copied-requires-clause-kinds c =
    let declared = rw c.in-Unrolled.is at c.requires.made in ap kinds_of declared.1 ∙ kinds_known c.args.kinds.now c.requires.kinds
