use Rattle.ebpf_object_file.proofs.Places.{none_reaching, is_reached_first}
use Rattle.ebpf_object_file.proofs.outside.relocation_in.Goals as goal

pub returns-in-None-clause-found : goal.returns-in-None-clause-found
returns-in-None-clause-found c = record {
  none = none_reaching c.args.file.now c.args.place c.in-Ok.relocations.now c.in-Ok.ensures.found c.in-None.ensures;
  no_addends = c.in-Ok.ensures.found.no_addends;
}

pub returns-in-Some-clause-found : goal.returns-in-Some-clause-found
returns-in-Some-clause-found c =
    is_reached_first c.args.file.now c.args.place c.in-Some.number c.in-Ok.relocations.now c.relocation_of.result
    c.in-Ok.ensures.found c.in-Some.ensures c.relocation_of.ensures
