use Rattle.std.proofs.Common.{◌≡◌, ◌+◌, ◌-◌, ◌/◌, length, refl, arith}
use Rattle.ebpf_object_file.proofs.Slots.{gathered, passed_before, passed_after}
use Rattle.ebpf_object_file.proofs.slot_lines.gather.Goals as goal
use Rattle.ebpf_object_file.proofs.slot_lines.gather.Goals.{then-line-from+then-slot-lines, then-line-from+else-slot-lines, else-line-from}

pub loop-number-preserved : goal.loop-number-preserved
loop-number-preserved c = elim c.if-line-from.branch [
  | then-line-from+then-slot-lines w ↦
      rw (w.lines-is, w.later.ensures) (gathered c.args.size c.args.records.now c.args.from c.loop-number.number
      ((c.line_of-line.result.offset - c.args.from + 7) / 8) c.loop-number.lines c.line_of-line.result
      c.loop-number.invariant w.if-slot-lines.true c.line_of-line.ensures w.if-line-from.true refl)
  | then-line-from+else-slot-lines w ↦
      rw w.lines-is (passed_after c.args.size c.args.records.now c.args.from c.loop-number.number c.loop-number.lines c.line_of-line.result
      c.loop-number.invariant c.line_of-line.ensures w.if-slot-lines.false)
  | else-line-from w ↦
      rw w.lines-is (passed_before c.args.size c.args.records.now c.args.from c.loop-number.number c.loop-number.lines c.line_of-line.result
      c.loop-number.invariant c.line_of-line.ensures w.if-line-from.false)
]

pub returns-clause-each : goal.returns-clause-each
returns-clause-each c =
    let e : length c.args.records.now / c.args.size ≡ c.loop-number.number = omega arith in
    rw e c.loop-number.invariant
