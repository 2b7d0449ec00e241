use Rattle.std.proofs.Common.{Some, None, refl, inl, inr}
use Rattle.ebpf_object_file.proofs.Places.{found_named}
use Rattle.ebpf_object_file.proofs.Chosen.{count_of}
use Rattle.ebpf_object_file.proofs.Meanings.{long_name, other_name, named_number}
use Rattle.ebpf_object_file.proofs.meant.named.Goals as goal

pub returns-then-name-gt-MOST_NAME-clause-refused : goal.returns-then-name-gt-MOST_NAME-clause-refused
returns-then-name-gt-MOST_NAME-clause-refused c = long_name c.args.file.now c.args.name.now c.requires c.if-name-gt-MOST_NAME.true

pub returns-in-Err-clause-refused : goal.returns-in-Err-clause-refused
returns-in-Err-clause-refused c =
    other_name c.args.file.now c.args.name.now _ c.requires c.if-name-gt-MOST_NAME.false (inl (c.in-Err.fault, refl, c.in-Err.ensures.refused))

pub returns-in-None-clause-refused : goal.returns-in-None-clause-refused
returns-in-None-clause-refused c =
    let f = c.in-Ok.functions in
    let are = c.in-Ok.ensures.found in
    let none =
    found_named c.args.file.now f.symbols.now f.strings.now c.args.name.now f.header.sections _ None (count_of c.args.file.now f are) c.in-None.ensures in
    other_name c.args.file.now c.args.name.now _ c.requires c.if-name-gt-MOST_NAME.false (inr (f, are, refl, none))

pub returns-in-Some-clause-found : goal.returns-in-Some-clause-found
returns-in-Some-clause-found c =
    let f = c.in-Ok.functions in
    let are = c.in-Ok.ensures.found in
    let first = found_named c.args.file.now f.symbols.now f.strings.now c.args.name.now f.header.sections _ (Some c.in-Some.number)
    (count_of c.args.file.now f are) c.in-Some.ensures in
    record { functions = are; number = named_number c.args.file.now c.args.name.now f c.in-Some.number c.requires c.if-name-gt-MOST_NAME.false first }
