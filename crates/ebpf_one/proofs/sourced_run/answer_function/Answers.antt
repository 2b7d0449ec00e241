use Rattle.std.proofs.lemmas.Result.{IfOk-weaker}
use Rattle.ebpf_one.proofs.SourcedRuns.{of_no_lines, of_lines}
use Rattle.ebpf_one.proofs.sourced_run.answer_function.Goals as goal

pub returns-in-Ok-None : goal.returns-in-Ok-None
returns-in-Ok-None c = IfOk-weaker c.answer_program.result _ _
    (λ response h. of_no_lines c.args.ask.now c.args.how c.args.file.now c.args.function _ response c.in-Ok-None.field-0-is c.in-Ok-None.ensures.found h) c.answer_program.ensures

pub returns-in-Ok-Some : goal.returns-in-Ok-Some
returns-in-Ok-Some c = IfOk-weaker c.answer_lined.result _ _
    (λ response h. of_lines c.args.ask.now c.args.how c.args.file.now c.args.function _ _ response c.in-Ok-Some.field-0-is c.in-Ok-Some.ensures.found h) c.answer_lined.ensures
