use Rattle.std.proofs.Common.{◌∙◌, ap, sym, ℕ, None, ◌/◌}
use Rattle.std.specs.Prelude.{if◌then◌else◌}
use Rattle.ebpf_state.specs.Stack.{bytes_in, is_whole_word}
use Rattle.ebpf_machine.specs.StackWords.{mark_in, marked, pointer_of}
use Rattle.ebpf_machine.proofs.Instructions.StackWords.{CanLoad, loads_number, loads_pointer, pointer_there, pointer_nowhere}
use Rattle.ebpf_machine.proofs.stack.Stack.load.Goals as goal

pub returns-in-Some : goal.returns-in-Some
returns-in-Some c =
    let pointers = pointer_of c.self.inside.pointing c.self.inside.bases c.self.inside.offsets in
    let found = sym c.in-Some.is ∙ c.pointer_at.ensures
    ∙ ap (λ (n : ℕ). if is_whole_word c.args.place n then pointers (c.args.place / 8) else None) c.bytes_in.ensures.value in
    let there = pointer_there pointers c.args.place (bytes_in c.args.size) c.in-Some.pointer found in
    let can : CanLoad c.self.inside.bytes (marked (mark_in c.self.inside.mark) c.self.inside.marks) pointers c.args.place (bytes_in c.args.size)
    c.args.signed =
    record { long = c.self.told.0; inside = c.requires.inside; loads = rw c.self.view_is c.requires.loads } in
    rw (← c.self.view_is) (loads_pointer c.in-Some.pointer can there.0 there.1)

pub returns-in-None : goal.returns-in-None
returns-in-None c =
    let pointers = pointer_of c.self.inside.pointing c.self.inside.bases c.self.inside.offsets in
    let found = sym c.in-None.is ∙ c.pointer_at.ensures
    ∙ ap (λ (n : ℕ). if is_whole_word c.args.place n then pointers (c.args.place / 8) else None) c.bytes_in.ensures.value in
    let nowhere = pointer_nowhere pointers c.args.place (bytes_in c.args.size) found in
    let can : CanLoad c.self.inside.bytes (marked (mark_in c.self.inside.mark) c.self.inside.marks) pointers c.args.place (bytes_in c.args.size)
    c.args.signed =
    record { long = c.self.told.0; inside = c.requires.inside; loads = rw c.self.view_is c.requires.loads } in
    rw (← c.self.view_is) (loads_number c.number_at.result can (rw (← c.bytes_in.ensures.value) c.bytes_in.ensures.some) nowhere c.number_at.ensures)
