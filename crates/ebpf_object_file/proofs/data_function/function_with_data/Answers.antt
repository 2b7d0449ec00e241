use Rattle.ebpf_object_file.proofs.Places.{place_section, place_within}
use Rattle.ebpf_object_file.proofs.Meanings.{meant_function, own_functions}
use Rattle.ebpf_object_file.proofs.Loads.{loading_refused, has_uses}
use Rattle.ebpf_object_file.specs.DataFunction.{HasUses}
use Rattle.std.proofs.Common.{List, ℕ, subst}
use Rattle.ebpf_object_file.proofs.data_function.function_with_data.Goals as goal

pub read_function-requires-clause-function : goal.read_function-requires-clause-function
read_function-requires-clause-function c = meant_function c.args.file.now c.args.name.now c.in-Ok.meant c.in-Ok.ensures.found

pub loads-requires-clause-section : goal.loads-requires-clause-section
loads-requires-clause-section c =
    let f = c.in-Ok.meant.functions in
    place_section f.file.now f.symbols.now c.in-Ok.meant.number c.in-Ok-read_function.function.place f.header (own_functions c.args.file.now f c.in-Ok.ensures.found.functions).header
    (meant_function c.args.file.now c.args.name.now c.in-Ok.meant c.in-Ok.ensures.found) c.in-Ok-read_function.ensures.found.place

pub loads-requires-clause-inside : goal.loads-requires-clause-inside
loads-requires-clause-inside c =
    let f = c.in-Ok.meant.functions in
    place_within f.file.now f.symbols.now c.in-Ok.meant.number c.in-Ok-read_function.function.place c.in-Ok-read_function.function.code.now
    c.in-Ok-read_function.ensures.found.place c.in-Ok-read_function.ensures.found.code

pub returns-in-Err-loads-clause-refused : goal.returns-in-Err-loads-clause-refused
returns-in-Err-loads-clause-refused c =
    loading_refused c.args.file.now c.args.name.now c.in-Ok.meant c.in-Ok-read_function.function c.in-Err-loads.fault c.in-Ok.ensures.found
    c.in-Ok-read_function.ensures.found c.in-Err-loads.ensures.refused

pub returns-in-Ok-loads-clause-data : goal.returns-in-Ok-loads-clause-data
returns-in-Ok-loads-clause-data c =
    let f = c.in-Ok.meant.functions in
    subst (λ (x : List ℕ). HasUses x c.in-Ok-loads.uses.items) c.in-Ok.ensures.found.functions.same
    (has_uses f.file.now f c.in-Ok-read_function.function c.in-Ok-loads.uses.items (own_functions c.args.file.now f c.in-Ok.ensures.found.functions)
    c.in-Ok-loads.ensures.found)
