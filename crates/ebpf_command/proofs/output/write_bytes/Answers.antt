use Rattle.ebpf_command.proofs.Known.{Appends-front}
use Rattle.ebpf_command.proofs.output.write_bytes.Goals as goal

pub writing-preserved : goal.writing-preserved
writing-preserved g c = Appends-front _ _ _ _ _ _ c.writing.invariant.1 c.in-Ok.ensures.bound c.writing.invariant.0 c.in-Ok.ensures.bytes
