use Rattle.std.proofs.Common.{◌∙◌}
use Rattle.std.proofs.lemmas.List.{take_all}
use Rattle.job_list.proofs.job_list.Jobs.of.Goals as goal

pub returns : goal.returns
returns c = c.copying.invariant.copied ∙ take_all c.copying.number c.args.jobs.now c.copying-test.false
