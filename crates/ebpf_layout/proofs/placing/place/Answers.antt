use Rattle.std.proofs.Common.{◌≡◌, length, arith}
use Rattle.ebpf_layout.proofs.Searching.{smaller_done}
use Rattle.ebpf_layout.proofs.Placed.{left_none, may_go, slot_inside, placed_more, still_left, all_placed}
use Rattle.ebpf_layout.proofs.placing.place.Goals as goal

pub next-slot-requires-in-loop-slot-clause-placing : goal.next-slot-requires-in-loop-slot-clause-placing
next-slot-requires-in-loop-slot-clause-placing c =
    let i = c.loop-slot.invariant in
    rw (c.in_ok-push.ensures.marks, c.in_ok-push.ensures.slots) (placed_more _ _ _ _ _ c.loop-slot.slot c.requires i.placing i.next)

pub lowered-top-requires : goal.lowered-top-requires
lowered-top-requires c k le =
    let i = c.loop-slot.invariant in
    let inside = slot_inside _ _ _ _ _ c.loop-slot.slot c.requires i.placing i.next in
    rw c.in_ok-push.ensures.marks (left_none _ _ c.loop-slot.slot (length c.loop-slot.order.slots.items) k (omega (arith, i.placing.all)) (i.above k le))

pub loop-slot-smaller : goal.loop-slot-smaller
loop-slot-smaller c =
    let o = c.loop-slot.order in
    let i = c.loop-slot.invariant in
    let inside = slot_inside _ _ _ _ _ c.loop-slot.slot c.requires i.placing i.next in
    rw c.in_ok-push.ensures.marks
    (smaller_done o.marks.items c.loop-slot.slot (length o.slots.items) (omega (arith, i.placing.all)) (may_go _ _ _ c.loop-slot.slot i.next.ready).left)

pub loop-slot-preserved : goal.loop-slot-preserved
loop-slot-preserved c =
    let i = c.loop-slot.invariant in record {
      placing = rw (c.in_ok-push.ensures.marks, c.in_ok-push.ensures.slots) (placed_more _ _ _ _ _ c.loop-slot.slot c.requires i.placing i.next);
      left = rw c.in_ok-push.ensures.marks
          (still_left _ _ _ _ _ c.loop-slot.slot c.requires i.placing i.next 0 (λ zero. absurd (omega arith)) i.left);
      inside = omega (arith, i.inside, c.lowered-top.ensures.inside);
      above = c.lowered-top.ensures.above;
      next = c.next-slot-in-loop-slot.ensures;
    }

pub returns-clause-ordered : goal.returns-clause-ordered
returns-clause-ordered c =
    let i = c.loop-slot.invariant in
    let zero : c.loop-slot.slot ≡ 0 = omega arith in
    rw (c.in_ok-push-2.ensures.marks, c.in_ok-push-2.ensures.slots)
    (all_placed c.args.program.now _ c.loop-slot.order.slots.items c.loop-slot.slot zero (placed_more _ _ _ _ _ c.loop-slot.slot c.requires i.placing i.next))

pub returns-clause-neighbours : goal.returns-clause-neighbours
returns-clause-neighbours c =
    let i = c.loop-slot.invariant in
    rw c.in_ok-push-2.ensures.slots (placed_more _ _ _ _ _ c.loop-slot.slot c.requires i.placing i.next).neighbours
