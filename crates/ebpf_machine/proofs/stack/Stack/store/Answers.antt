use Rattle.std.specs.Int.{w64}
use Rattle.std.proofs.Common.{ap, ◌∙◌, ℕ, Option, rules}
use Rattle.std.proofs.lemmas.Int.{to_z-of_z}
use Rattle.ebpf_state.specs.Stack.{bytes_in}
use Rattle.ebpf_machine.specs.Cells.{stored_cells, is_pointer}
use Rattle.ebpf_machine.specs.declared.value.Value.{Value}
use Rattle.ebpf_machine.specs.StackWords.{mark_in, marked, pointer_of}
use Rattle.ebpf_machine.proofs.Instructions.StackWords.{marks_after, stores_value, writes_number}
use Rattle.ebpf_machine.proofs.Rules.Words.{bytes_some, bytes_few}
use Rattle.ebpf_machine.proofs.stack.Stack.store.Goals as goal

pub returns-in-Pointer : goal.returns-in-Pointer
returns-in-Pointer c =
    let before : ℕ → Option (Value ℕ) = pointer_of c.self.inside.pointing c.self.inside.bases c.self.inside.offsets in
    let after : ℕ → Option (Value ℕ) = pointer_of c.keep.new.pointing c.keep.new.bases c.keep.new.offsets in
    let pointer = ap is_pointer c.in-Pointer.is in
    let offset = to_z-of_z w64 c.in-Pointer.offset (search rules) in
    stores_value c.self.inside.bytes (marked (mark_in c.self.inside.mark) c.self.inside.marks) before after c.args.place
    (bytes_in c.args.size) c.args.value c.self.told.0 pointer (c.requires.whole pointer) (rw (c.in-Pointer.is, ← offset) c.keep.ensures)
    ∙ ap (stored_cells c.args.place (bytes_in c.args.size) c.args.value) c.self.view_is

pub returns-in-Number : goal.returns-in-Number
returns-in-Number c =
    writes_number c.self.inside.bases c.self.inside.offsets c.args.value
    (record {
      long = c.self.told.0;
      same = c.write.ensures.long.0;
      some = bytes_some c.args.size;
      few = bytes_few c.args.size;
      each = c.write.ensures.bytes;
    })
    (record {
      all = c.self.told.1;
      still = c.write.ensures.long.1;
      above = c.self.invariant.0.0;
      words = c.write.ensures.pointing;
      marked = c.write.ensures.marks;
    })
    c.in-Number.is
    ∙ ap (stored_cells c.args.place (bytes_in c.args.size) c.args.value) c.self.view_is

pub invariant_of-self-in-Number : goal.invariant_of-self-in-Number
invariant_of-self-in-Number c =
    marks_after c.args.place (bytes_in c.args.size) c.self.inside.pointing c.self.inside.mark c.self.inside.marks c.write.new.marks c.self.invariant
    c.write.ensures.marks
