use Rattle.std.proofs.Common.{ℕ, List, subst, sym}
use Rattle.std.proofs.lemmas.Result.{IfOk-weaker}
use Rattle.ebpf_object_file.specs.declared.data_function.DataFault.{DataFault}
use Rattle.ebpf_object_file.specs.declared.object_fault.ObjectFault.{ObjectFault}
use Rattle.ebpf_object_file.specs.DataFunction.{IfObject, IsDataFault, IsDataFunction}
use Rattle.ebpf_input.proofs.data_request.requested_with_data.Goals as goal

pub returns-in-Ok-clause-found : goal.returns-in-Ok-clause-found
returns-in-Ok-clause-found c =
    let is = subst (λ (name : List ℕ). IsDataFunction c.args.file.now name c.in-Ok.function) c.as_bytes.ensures.value c.in-Ok.ensures.found in
    IfOk-weaker c.requested_of.result _ _ (λ r h. record { function = c.in-Ok.function; is = is; request = h }) c.requested_of.ensures.found

pub returns-in-Err-Object-clause-refused : goal.returns-in-Err-Object-clause-refused
returns-in-Err-Object-clause-refused c =
    let of_bytes = subst (λ (e : DataFault). IfObject e (λ o. IsDataFault c.args.file.now c.as_bytes.result.now o)) c.in-Err-Object.field-0-is
    c.in-Err-Object.ensures.refused in
    let of_name = subst (λ (name : List ℕ). IsDataFault c.args.file.now name c.in-Err-Object.fault) c.as_bytes.ensures.value of_bytes in
    subst (λ (o : ObjectFault). IsDataFault c.args.file.now c.args.name.now o) (sym c.in-Err-Object.fault-is) of_name
