use Rattle.ebpf_report.proofs.VerdictLemmas.{known_kept}
use Rattle.ebpf_script.proofs.replay_script.answer_script.Goals as goal

pub answer_events-requires : goal.answer_events-requires
answer_events-requires c = rw (c.deref.ensures.value) (known_kept _ _ c.in_ok-verdicts.verdicts c.in_ok-verdicts.ensures)
