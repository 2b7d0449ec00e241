use Rattle.std.proofs.Common.{arith}
use Rattle.shared_row.proofs.Slots.{takes-room, takes-one}
use Rattle.shared_row.proofs.spread.gathered.Goals as goal

pub keep-requires : goal.keep-requires
keep-requires g c =
    let i = c.loop-slot.invariant in
    let r = takes-room _ _ c.loop-slot.into.items _ c.in-Some.slot i.values c.in-Some.ensures.items in
    let l = c.loop-slot.into.ok.0 in
    let room = i.room in
    omega arith

pub loop-slot-preserved : goal.loop-slot-preserved
loop-slot-preserved g c =
    let i = c.loop-slot.invariant in
    let k = c.keep.ensures in
    let room = i.room in
    let same = k.capacity in record {
      values = takes-one _ _ c.loop-slot.into.items _ _ c.in-Some.slot i.values c.in-Some.ensures.items k.items;
      room = omega arith;
    }
