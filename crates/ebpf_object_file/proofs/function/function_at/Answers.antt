use Rattle.std.proofs.Common.{refl, inl, inr, subst, List, ℕ}
use Rattle.ebpf_object_file.specs.Outside.{IsCalling, HasNone}
use Rattle.ebpf_object_file.proofs.Places.{place_section, place_within}
use Rattle.ebpf_object_file.proofs.function.function_at.Goals as goal

pub returns-in-Ok-Some-clause-refused : goal.returns-in-Ok-Some-clause-refused
returns-in-Ok-Some-clause-refused c =
    let first = rw c.in-Ok-Some.field-0-is at c.in-Ok-Some.ensures.found in
    inr (
      c.in-Ok.function.place,
      c.in-Ok.ensures.found.place,
      inr (
        c.referred-outside.result,
        refl,
        inl (record {
          relocation = c.in-Ok-Some.relocation;
          first = first;
          is = c.referred-outside.ensures;
        }),
      ),
    )

pub returns-in-Some-clause-refused : goal.returns-in-Some-clause-refused
returns-in-Some-clause-refused c =
    let f = c.args.functions in
    let calls = subst (λ (x : List ℕ). IsCalling f.symbols.now f.strings.now f.header.sections c.in-Ok.function.place x c.calling-outside.result)
    c.in-Ok.ensures.found.code c.calling-outside.ensures in
    let none : HasNone f.file.now c.in-Ok.function.place = rw c.in-Ok-None.field-0-is at c.in-Ok-None.ensures.found in
    inr (c.in-Ok.function.place, c.in-Ok.ensures.found.place, inr (c.calling-outside.result, refl, inr (none, calls)))

pub referred-outside-requires-clause-section : goal.referred-outside-requires-clause-section
referred-outside-requires-clause-section c =
    place_section c.args.functions.file.now c.args.functions.symbols.now c.args.number c.in-Ok.function.place c.args.functions.header
    c.requires.functions.header c.requires.function c.in-Ok.ensures.found.place

pub calling-outside-requires-clause-inside : goal.calling-outside-requires-clause-inside
calling-outside-requires-clause-inside c =
    place_within c.args.functions.file.now c.args.functions.symbols.now c.args.number c.in-Ok.function.place c.in-Ok.function.code.now
    c.in-Ok.ensures.found.place c.in-Ok.ensures.found.code
