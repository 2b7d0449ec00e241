use Rattle.std.proofs.Common.{rules, refl, inl, inr, subst}
use Rattle.ebpf_object_file.specs.declared.data_function.DataFault.{DataFault}
use Rattle.ebpf_object_file.specs.declared.object_fault.ObjectFault.{ObjectFault}
use Rattle.ebpf_object_file.specs.DataFunction.{IfObject, IsDataFault}
use Rattle.ebpf_object_file.proofs.Places.{data_within}
use Rattle.ebpf_host_c.specs.Objects.{IsFaultReported}
use Rattle.ebpf_host_c.proofs.Holding.{IsLoad-weaker}
use Rattle.ebpf_host_c.proofs.with_data.load_with_data.Goals as goal

pub load_data-requires-clause-place : goal.load_data-requires-clause-place
load_data-requires-clause-place c = data_within c.args.file.now c.args.name.now c.in-Ok.function c.in-Ok.ensures.found

pub returns-in-Ok : goal.returns-in-Ok
returns-in-Ok c =
    let f = c.in-Ok.function in let found = c.in-Ok.ensures.found in
    IsLoad-weaker _ _ _ _ _ _ _ _ (λ p h. (f, found, h)) (λ room text r h. inl (f, found, h)) (λ out. ((f, found), out)) (λ _. tt)
    _ _ _ _ _ _ _ c.load_data.ensures

pub returns-in-Ok-report_fault : goal.returns-in-Ok-report_fault
returns-in-Ok-report_fault c =
    let is = subst (λ (e : DataFault). IfObject e (λ o. IsDataFault c.args.file.now c.args.name.now o)) c.in-Err-Object.field-0-is
    c.in-Err-Object.ensures.refused in
    record {
      loaded = search rules;
      refused = λ _. inr (
        c.in-Err-Object.fault,
        is,
        subst (λ (o : ObjectFault). IsFaultReported c.args.file.now o c.args.text.now c.report_fault.new.text c.report_fault.new.refused)
            c.in-Err-Object.fault-is c.in-Ok-report_fault.ensures.reported,
      );
      untold = search rules;
      declaration = search rules;
      memory = λ _. tt;
      statuses = search rules;
      kept = λ _. refl;
    }
