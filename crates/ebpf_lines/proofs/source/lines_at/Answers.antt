use Rattle.std.proofs.Common.{inl, inr, refl}
use Rattle.ebpf_object_file.specs.Source.{AreLinesOf, HasNoLinesOf}
use Rattle.ebpf_lines.proofs.source.lines_at.Goals as goal

pub returns-in_ok-holding-in-Ok-Some : goal.returns-in_ok-holding-in-Ok-Some
returns-in_ok-holding-in-Ok-Some c =
    let are : AreLinesOf c.args.file.now c.args.coded.place.section c.in-Ok-Some.lines = rw c.in-Ok-Some.field-0-is at c.in-Ok-Some.ensures.found in
    (refl, record { lines = are; whole = c.in_ok-holding-in-Ok-Some.ensures.whole; holding = c.in_ok-holding-in-Ok-Some.ensures.held })

pub returns-in-Ok-None : goal.returns-in-Ok-None
returns-in-Ok-None c =
    let none : HasNoLinesOf c.args.file.now c.args.coded.place.section = rw c.in-Ok-None.field-0-is at c.in-Ok-None.ensures.found in inl none

pub returns-in-Err : goal.returns-in-Err
returns-in-Err c = inr (c.in-Err.field-0, c.in-Err.ensures.refused)
