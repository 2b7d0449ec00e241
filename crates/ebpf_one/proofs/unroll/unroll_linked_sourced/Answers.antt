use Rattle.std.proofs.Common.{inr}
use Rattle.std.proofs.lemmas.Result.{IfOk-weaker}
use Rattle.ebpf_one.proofs.Unrolls.{linked_no_lines, linked_lines}
use Rattle.ebpf_one.proofs.unroll.unroll_linked_sourced.Goals as goal

pub returns-in-Ok-None : goal.returns-in-Ok-None
returns-in-Ok-None c = IfOk-weaker c.unroll_linked.result _ _
    (λ response h. linked_no_lines c.args.format c.args.how c.args.file.now c.args.linked _ response c.in-Ok-None.field-0-is c.in-Ok-None.ensures.found h) c.unroll_linked.ensures

pub returns-in-Ok-Some : goal.returns-in-Ok-Some
returns-in-Ok-Some c = IfOk-weaker c.unroll_linked_lined.result _ _
    (λ response h. linked_lines c.args.format c.args.how c.args.file.now c.args.linked _ _ response c.in-Ok-Some.field-0-is c.in-Ok-Some.ensures.found h) c.unroll_linked_lined.ensures

pub returns-in-Err : goal.returns-in-Err
returns-in-Err c = IfOk-weaker c.answer_file_fault.result _ _ (λ response h. inr (inr (c.in-Err.fault, c.in-Err.ensures.refused, h))) c.answer_file_fault.ensures
