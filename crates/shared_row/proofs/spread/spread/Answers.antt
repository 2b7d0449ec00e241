use Rattle.std.proofs.Common.{arith}
use Rattle.shared_row.proofs.Slots.{moves-one, places-one}
use Rattle.shared_row.proofs.spread.spread.Goals as goal

pub loop-value-preserved : goal.loop-value-preserved
loop-value-preserved g c =
    let i = c.loop-value.invariant in
    let p = c.push_apart-in-Some.ensures in
    let fewer = c.in-Some.ensures.len in
    let len = i.len in
    let room = i.room in
    let long = c.loop-value.slots.ok.0 in
    let more = p.len in
    let same = p.capacity in
    let kept = c.in-Some.ensures.capacity in
    let capacity = i.capacity in record {
      values = moves-one _ _ _ _ _ c.in-Some.value i.values c.in-Some.ensures.items p.items;
      len = omega arith;
      places = places-one _ _ c.in-Some.value _ _ _ (omega arith) (omega arith) p.items i.places;
      room = omega arith;
      capacity = omega arith;
    }
