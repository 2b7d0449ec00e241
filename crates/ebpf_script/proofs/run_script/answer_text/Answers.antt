use Rattle.ebpf_reader.proofs.RunnableLemmas.{text_runnable}
use Rattle.ebpf_script.proofs.run_script.answer_text.Goals as goal

pub answer_script-requires-clause-runnable : goal.answer_script-requires-clause-runnable
answer_script-requires-clause-runnable g c κs within = text_runnable _ _ _ c.in-Ok.ensures.parsed
