use Rattle.std.proofs.Common.{inr, rules, ℕ, List, subst}
use Rattle.std.proofs.lemmas.Result.{IfOk-weaker}
use Rattle.ebpf_object_file.specs.Function.{IsWantedFault}
use Rattle.ebpf_one.proofs.sourced_run.answer_sourced.Goals as goal

pub returns-in-Err : goal.returns-in-Err
returns-in-Err c =
    let fault = c.in-Err.field-0 in
    let wanted = subst (λ (name : List ℕ). IsWantedFault c.args.file.now name fault) c.as_bytes.ensures.value c.in-Err.ensures.refused in
    IfOk-weaker c.answer_with_data.result _ _ (λ response h. inr (inr (fault, (search rules, wanted), h fault))) c.answer_with_data.ensures
