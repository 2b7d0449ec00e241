use Rattle.std.proofs.Common.{inr}
use Rattle.std.proofs.lemmas.Result.{IfOk-weaker}
use Rattle.ebpf_one.proofs.DataLists.{of_no_lines, of_lines}
use Rattle.ebpf_one.proofs.data_list.list_function.Goals as goal

pub returns-in-Ok-None : goal.returns-in-Ok-None
returns-in-Ok-None c = rw c.if-not-lines.false
    (IfOk-weaker c.list_bare-in-Ok-None.result _ _
    (λ response h. of_no_lines c.args.format c.args.file.now c.args.function.now _ response c.in-Ok-None.field-0-is c.in-Ok-None.ensures.found h)
    c.list_bare-in-Ok-None.ensures)

pub returns-in-Ok-Some : goal.returns-in-Ok-Some
returns-in-Ok-Some c = rw c.if-not-lines.false
    (IfOk-weaker c.list_lined.result _ _
    (λ response h. of_lines c.args.format c.args.file.now c.args.function.now _ response _ c.in-Ok-Some.field-0-is c.in-Ok-Some.ensures.found h)
    c.list_lined.ensures)

pub returns-in-Err : goal.returns-in-Err
returns-in-Err c = rw c.if-not-lines.false
    (IfOk-weaker c.answer_file_fault.result _ _ (λ response h. inr (inr (c.in-Err.fault, c.in-Err.ensures.refused, h))) c.answer_file_fault.ensures)
