use Rattle.ebpf_report.proofs.ObjectLemmas.{joined}
use Rattle.ebpf_report.proofs.verdict_text.write_refused_object.Goals as goal

pub returns : goal.returns
returns c = rw (← c.name-code.ensures) (joined _ _ _ _ _ _ _ c.in_ok-write.ensures.bytes c.in_ok-write_why.ensures c.in_ok-push_str.ensures.bytes)
