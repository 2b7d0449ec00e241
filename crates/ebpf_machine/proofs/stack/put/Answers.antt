use Rattle.std.proofs.Common.{refl, arith, ◌∙◌, ap, take, List, ℕ}
use Rattle.ebpf_machine.specs.StackWords.{mark_in}
use Rattle.ebpf_machine.proofs.Instructions.StackWords.{mark_bytes, marked_after, marked_byte, written_byte}
use Rattle.ebpf_machine.proofs.stack.put.Goals as goal

pub returns-clause-bytes : goal.returns-clause-bytes
returns-clause-bytes c =
    λ i lt. written_byte c.args.place c.args.count _ c.args.n c.args.bytes.now c.copy_from_slice.new.self i refl
    (let long = c.told-bytes in let room = c.requires.inside in omega arith) c.requires.few
    (c.copy_from_slice.ensures.after ∙ ap (λ (xs : List ℕ). take c.args.count xs) c.to_le_bytes.ensures)

pub returns-clause-marks : goal.returns-clause-marks
returns-clause-marks c = λ i lt.
    let long = c.told-marks in
    let room = c.requires.inside in
    marked_after c.args.marks.now c.forget.new.marks _ (mark_in c.args.mark) c.args.pointing.now c.args.place c.args.count i (c.forget.ensures.marks i lt)
    (marked_byte c.args.place c.args.count _ (mark_in c.args.mark) 0 c.forget.new.marks c.copy_from_slice-2.new.self i refl (omega arith) c.requires.few
    (c.copy_from_slice-2.ensures.after ∙ ap (λ (xs : List ℕ). take c.args.count xs) (c.to_le_bytes-2.ensures ∙ mark_bytes c.args.mark c.requires.mark)))
