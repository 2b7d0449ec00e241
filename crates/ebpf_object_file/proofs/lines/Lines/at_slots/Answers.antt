use Rattle.std.proofs.Common.{◌≡◌, ◌<◌, ◌≤◌, ℕ, length, subst, sym, arith}
use Rattle.ebpf_object_file.proofs.Slots.{carried_first, carried_kept, carried_begun, is_empty, isnt_empty}
use Rattle.ebpf_object_file.proofs.lines.Lines.at_slots.Goals as goal
use Rattle.ebpf_object_file.proofs.lines.Lines.at_slots.Goals.{then-is_none, else-is_none}

pub loop-slot-preserved : goal.loop-slot-preserved
loop-slot-preserved c = elim c.if-is_none.branch [
  | then-is_none w ↦ rw w.lines-is (carried_kept c.args.self.now.size c.args.self.now.records.now c.args.from c.loop-slot.slot c.loop-slot.lines
      c.loop-slot.auto.slot
      (subst (λ (n : ℕ). c.loop-slot.slot < n) (sym c.loop-slot.auto.lines) c.loop-slot-test.true) c.loop-slot.invariant (is_empty _ w.if-is_none.ensures))
  | else-is_none w ↦ rw w.lines-is (carried_begun c.args.self.now.size c.args.self.now.records.now c.args.from c.loop-slot.slot c.loop-slot.lines
      c.loop-slot.auto.slot c.loop-slot.invariant (isnt_empty _ w.if-is_none.ensures))
]

pub loop-slot-init : goal.loop-slot-init
loop-slot-init c = carried_first c.args.self.now.size c.args.self.now.records.now c.args.from c.gather.new.lines c.gather.ensures.each

pub returns-clause-each : goal.returns-clause-each
returns-clause-each c =
    let same : length c.loop-slot.lines ≡ length c.gather.new.lines = c.loop-slot.auto.lines in
    let end : length c.gather.new.lines ≤ c.loop-slot.slot = c.loop-slot-test.false in
    λ k lt. c.loop-slot.invariant.below k lt (omega (arith, lt, same, end))
