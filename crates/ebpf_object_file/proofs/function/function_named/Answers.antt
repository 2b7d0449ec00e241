use Rattle.std.proofs.Common.{◌/◌, length, Some, None, refl, inl, inr}
use Rattle.ebpf_object_file.specs.First.{IsFirst}
use Rattle.ebpf_object_file.specs.File.{named_in}
use Rattle.ebpf_object_file.proofs.Places.{found_named}
use Rattle.ebpf_object_file.proofs.Chosen.{count_of, named_found, named_refused}
use Rattle.ebpf_object_file.proofs.function.function_named.Goals.{In-Some}
use Rattle.ebpf_object_file.proofs.function.function_named.Goals as goal

pub returns-in-None-clause-refused : goal.returns-in-None-clause-refused
returns-in-None-clause-refused c =
    let f = c.in-Ok.functions in
    let are = c.in-Ok.ensures.found in
    let none =
    found_named c.args.file.now f.symbols.now f.strings.now c.args.name.now f.header.sections _ None (count_of c.args.file.now f are) c.in-None.ensures in
    inr (c.if-name-gt-MOST_NAME.false, inr (f, are, inl (refl, none)))

-- the symbol that was found is the first of the name
first : (c : In-Some)
    → IsFirst (named_in c.args.file.now c.in-Ok.functions.symbols.now c.in-Ok.functions.strings.now c.args.name.now) (length c.in-Ok.functions.symbols.now / 24) c.in-Some.number
first c =
    let f = c.in-Ok.functions in
    found_named c.args.file.now f.symbols.now f.strings.now c.args.name.now f.header.sections _ (Some c.in-Some.number)
    (count_of c.args.file.now f c.in-Ok.ensures.found) c.in-Some.ensures

pub returns-in-Some-clause-found : goal.returns-in-Some-clause-found
returns-in-Some-clause-found c =
    named_found c.args.file.now c.args.name.now c.in-Ok.functions c.in-Some.number c.function_at.result c.in-Ok.ensures.found
    (first (goal.at.returns-in-Some-clause-found c).In-Some) c.function_at.ensures.found

pub returns-in-Some-clause-refused : goal.returns-in-Some-clause-refused
returns-in-Some-clause-refused c =
    named_refused c.args.file.now c.args.name.now c.in-Ok.functions c.in-Some.number c.function_at.result c.in-Ok.ensures.found
    c.if-name-gt-MOST_NAME.false (first (goal.at.returns-in-Some-clause-refused c).In-Some) c.function_at.ensures.refused
