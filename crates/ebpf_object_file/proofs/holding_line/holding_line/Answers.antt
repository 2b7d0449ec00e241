use Rattle.std.proofs.Common.{inl, inr}
use Rattle.ebpf_object_file.specs.Source.{AreLinesOf, HasNoLinesOf}
use Rattle.ebpf_object_file.proofs.holding_line.holding_line.Goals as goal

pub returns-in-None : goal.returns-in-None
returns-in-None c =
    let are : AreLinesOf c.args.file.now c.args.place.section c.in-Ok-Some.lines = rw c.in-Ok-Some.field-0-is at c.in-Ok-Some.ensures.found in
    inl (c.in-Ok-Some.lines, (are, c.in-None.ensures))

pub returns-in-Ok-None : goal.returns-in-Ok-None
returns-in-Ok-None c =
    let none : HasNoLinesOf c.args.file.now c.args.place.section = rw c.in-Ok-None.field-0-is at c.in-Ok-None.ensures.found in inr (inl none)

pub returns-in-Err : goal.returns-in-Err
returns-in-Err c = inr (inr (c.in-Err.field-0, c.in-Err.ensures.refused))
