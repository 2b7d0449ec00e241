use Rattle.worker_pool.proofs.Answering.{on_with_one, on_with_four}
use Rattle.worker_pool.proofs.bundle.answer_next.Goals as goal

pub returns-in-Some-clause-answered : goal.returns-in-Some-clause-answered
returns-in-Some-clause-answered g c = on_with_four c.in_ok-answer_four.ensures.answered

pub returns-clause-answered : goal.returns-clause-answered
returns-clause-answered g c = on_with_one c.in_ok-workspace-2.ensures.answered
