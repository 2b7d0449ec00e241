use Rattle.std.proofs.Common.{◌∙◌, ap}
use Rattle.ebpf_machine.specs.World.{kinds_of}
use Rattle.ebpf_machine.proofs.Instructions.KindLemmas.{kinds_known}
use Rattle.ebpf_verify.specs.Subject.{Subject}
use Rattle.ebpf_one.proofs.running.run_laid.Goals as goal

pub answer_copied-requires-clause-kinds : goal.answer_copied-requires-clause-kinds
answer_copied-requires-clause-kinds c =
    ap (λ (s : Subject). kinds_of s.rows) c.in-Ok.ensures.accepted ∙ kinds_known c.args.kinds.now c.requires.kinds
