use Rattle.std.proofs.lemmas.Result.{IfOk-weaker}
use Rattle.ebpf_one.proofs.Sources.{of_no_lines, of_lines}
use Rattle.ebpf_one.proofs.source_list.source_function.Goals as goal

pub returns-in-Ok-None : goal.returns-in-Ok-None
returns-in-Ok-None c = IfOk-weaker c.list_input.result _ _
    (λ response h. of_no_lines c.args.format c.args.file.now c.args.function _ response c.in-Ok-None.field-0-is c.in-Ok-None.ensures.found h) c.list_input.ensures

pub returns-in-Ok-Some : goal.returns-in-Ok-Some
returns-in-Ok-Some c = IfOk-weaker c.source_bytes.result _ _
    (λ response h. of_lines c.args.format c.args.file.now c.args.function _ _ response c.in-Ok-Some.field-0-is c.in-Ok-Some.ensures.found h) c.source_bytes.ensures
