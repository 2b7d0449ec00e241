use Rattle.std.proofs.Common.{refl, inl, inr}
use Rattle.ebpf_object_file.proofs.Chosen.{no_functions, is_only, are_two}
use Rattle.ebpf_object_file.proofs.meant.only.Goals as goal

pub returns-in-None-clause-refused : goal.returns-in-None-clause-refused
returns-in-None-clause-refused c =
    inr (c.in-Ok.functions, c.in-Ok.ensures.found, inl (refl, no_functions c.args.file.now c.in-Ok.functions c.in-Ok.ensures.found c.in-None.ensures))

pub returns-in-Some-next-clause-refused : goal.returns-in-Some-next-clause-refused
returns-in-Some-next-clause-refused c =
    let two = are_two c.args.file.now c.in-Ok.functions c.in-Some.first.number c.in-Some-next.field-0.number c.in-Ok.ensures.found c.in-Some.ensures.0
    c.in-Some-next.ensures.0 in
    inr (c.in-Ok.functions, c.in-Ok.ensures.found, inr (refl, two))

pub returns-in-None-next-clause-found : goal.returns-in-None-next-clause-found
returns-in-None-next-clause-found c =
    record {
      functions = c.in-Ok.ensures.found;
      number = is_only c.args.file.now c.in-Ok.functions c.in-Some.first.number c.in-Ok.ensures.found c.in-Some.ensures.0 c.in-None-next.ensures;
    }
