use Rattle.std.proofs.Common.{inl, inr}
use Rattle.ebpf_object_file.proofs.Places.{wanted_within}
use Rattle.ebpf_host_c.specs.Objects.{HasFault}
use Rattle.ebpf_host_c.proofs.Holding.{IsLoad-weaker}
use Rattle.ebpf_host_c.proofs.loading.load_function.Goals as goal

pub load_slots-requires : goal.load_slots-requires
load_slots-requires c = wanted_within c.args.file.now c.args.name.now c.in-Ok.function c.in-Ok.ensures.found

pub returns-in-Ok : goal.returns-in-Ok
returns-in-Ok c =
    let f = c.in-Ok.function in let found = c.in-Ok.ensures.found in
    IsLoad-weaker _ _ _ _ _ _ _ _ (λ p h. inl (f, found, h)) (λ room text r h. inl (f, found, h)) (λ out. (inl (f, found), out)) (λ within. inr within)
    _ _ _ _ _ _ _ c.load_slots.ensures

pub returns-in-Err : goal.returns-in-Err
returns-in-Err c =
    let fault : HasFault c.args.file.now c.args.name.now = (c.in-Err.field-0, c.in-Err.ensures.refused) in
    IsLoad-weaker _ _ _ _ _ _ _ _ (λ p h. inr (fault, h)) (λ room text r h. inr (fault, h)) (λ out. (inr out.0, out.1)) (λ _. inl fault)
    _ _ _ _ _ _ _ c.load_with_data.ensures
