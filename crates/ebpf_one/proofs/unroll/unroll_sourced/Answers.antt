use Rattle.std.proofs.Common.{inr}
use Rattle.std.proofs.lemmas.Result.{IfOk-weaker}
use Rattle.ebpf_one.proofs.Unrolls.{of_no_lines, of_lines}
use Rattle.ebpf_one.proofs.unroll.unroll_sourced.Goals as goal

pub returns-in-Ok-None : goal.returns-in-Ok-None
returns-in-Ok-None c = IfOk-weaker c.unroll_placed.result _ _
    (λ response h. of_no_lines c.args.ask.now c.args.how c.args.file.now c.args.function _ response c.in-Ok-None.field-0-is c.in-Ok-None.ensures.found h) c.unroll_placed.ensures

pub returns-in-Ok-Some : goal.returns-in-Ok-Some
returns-in-Ok-Some c = IfOk-weaker c.unroll_lined.result _ _
    (λ response h. of_lines c.args.ask.now c.args.how c.args.file.now c.args.function _ _ response c.in-Ok-Some.field-0-is c.in-Ok-Some.ensures.found h) c.unroll_lined.ensures

pub returns-in-Err : goal.returns-in-Err
returns-in-Err c = IfOk-weaker c.answer_file_fault.result _ _ (λ response h. inr (inr (c.in-Err.fault, c.in-Err.ensures.refused, h))) c.answer_file_fault.ensures
