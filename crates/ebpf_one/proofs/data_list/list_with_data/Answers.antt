use Rattle.std.proofs.Common.{inl, inr, ℕ, List, subst}
use Rattle.std.proofs.lemmas.Result.{IfOk-weaker}
use Rattle.ebpf_object_file.specs.declared.data_function.DataFault.{DataFault}
use Rattle.ebpf_object_file.specs.DataFunction.{IfObject, IsDataFault, IsDataFunction}
use Rattle.ebpf_one.proofs.data_list.list_with_data.Goals as goal

pub returns-in-Ok : goal.returns-in-Ok
returns-in-Ok c =
    let is = subst (λ (name : List ℕ). IsDataFunction c.args.file.now name c.in-Ok.function) c.as_bytes.ensures.value c.in-Ok.ensures.found in
    IfOk-weaker c.list_function.result _ _ (λ response h e. inl (c.in-Ok.function, is, h)) c.list_function.ensures

pub returns-in-Err-Object : goal.returns-in-Err-Object
returns-in-Err-Object c =
    let of_bytes = subst (λ (e : DataFault). IfObject e (λ o. IsDataFault c.args.file.now c.as_bytes.result.now o)) c.in-Err-Object.field-0-is
    c.in-Err-Object.ensures.refused in
    let of_name = subst (λ (name : List ℕ). IsDataFault c.args.file.now name c.in-Err-Object.fault) c.as_bytes.ensures.value of_bytes in
    IfOk-weaker c.answer_object_fault.result _ _ (λ response h e. inr (c.in-Err-Object.fault, of_name, h)) c.answer_object_fault.ensures
