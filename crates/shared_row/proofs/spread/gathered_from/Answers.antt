use Rattle.std.proofs.Common.{ℕ, Bool, false, List, ◌++◌, length, get_or, set, refl, sym, ap, ◌∙◌, arith, get_or-set_same, get_or-set_other}
use Rattle.std.specs.Option.{option_to_list}
use Rattle.std.proofs.lemmas.List.{take_all}
use Rattle.std.specs.Slots.{slots_items, slots_filled, slots_counts}
use Rattle.shared_row.specs.Spread.{values_in}
use mathlib.Core.Logic.{dite}
use native.Mathlib.Decide.{ℕ_discrete}
use Rattle.shared_row.proofs.Slots.{slot-fits, values-next}
use Rattle.shared_row.proofs.spread.gathered_from.Goals as goal

pub keep-requires : goal.keep-requires
keep-requires g c =
    let i = c.loop-spot.invariant in
    let here = ap (λ xs. lib.ListN.get_elem? xs c.loop-spot.spot) (sym i.items) ∙ c.take-slot.ensures.value in
    let r = slot-fits (slots_items c.args.closed.slots) c.loop-spot.spot c.take-slot.result here in
    let l = c.loop-spot.into.ok.0 in
    let n = ap (λ xs. length xs) i.moved in
    let room = i.room in
    omega arith

pub loop-spot-preserved : goal.loop-spot-preserved
loop-spot-preserved g c =
    let i = c.loop-spot.invariant in
    let t = c.take-slot.ensures.others in
    let k = c.keep.ensures in
    let spot : ℕ = c.loop-spot.spot in
    let counts = slots_counts c.loop-spot.closed.slots in
    let more = c.loop-spot-test.true in
    let end = c.slot_count-spot-end.ensures in
    let len = i.len in
    let room = i.room in
    let same = k.capacity in
    let here = ap (λ xs. lib.ListN.get_elem? xs spot) (sym i.items) ∙ c.take-slot.ensures.value in record {
      items = t.0 ∙ i.items;
      len = t.2 ∙ i.len;
      full = λ j low below. ap (λ (fs : List Bool). get_or fs j false) t.1
          ∙ (get_or-set_other (slots_filled c.loop-spot.closed.slots) spot j false false (λ e. omega arith) ∙ i.full j (omega arith) below);
      taken = λ j below. ap (λ (fs : List Bool). get_or fs j false) t.1 ∙ dite (ℕ_discrete j spot)
          (λ e. ap (λ (n : ℕ). get_or (set (slots_filled c.loop-spot.closed.slots) spot false) n false) e
          ∙ get_or-set_same (slots_filled c.loop-spot.closed.slots) spot false false (omega arith))
          (λ ne. get_or-set_other (slots_filled c.loop-spot.closed.slots) spot j false false ne ∙ i.taken j (omega arith));
      moved = k.items ∙ (ap (λ xs. xs ++ option_to_list c.take-slot.result) i.moved
          ∙ sym (values-next (slots_items c.args.closed.slots) spot c.take-slot.result here));
      room = omega arith;
    }

pub loop-spot-init : goal.loop-spot-init
loop-spot-init g c = record {
  items = refl;
  len = refl;
  full = λ k low below. c.requires.full k low below;
  taken = λ k below. absurd (omega arith);
  moved = c.requires.none;
  room = c.requires.room;
}

pub take-slot-requires : goal.take-slot-requires
take-slot-requires g c =
    let i = c.loop-spot.invariant in
    let more = c.loop-spot-test.true in
    let end = c.slot_count-spot-end.ensures in
    let len = i.len in
    (omega arith, i.full c.loop-spot.spot (omega arith) (omega arith))

pub free-requires : goal.free-requires
free-requires g c k below =
    let i = c.loop-spot.invariant in
    let over = c.loop-spot-test.false in
    let end = c.slot_count-spot-end.ensures in
    let len = i.len in
    i.taken k (omega arith)

pub returns : goal.returns
returns g c =
    let i = c.loop-spot.invariant in
    let over = c.loop-spot-test.false in
    let end = c.slot_count-spot-end.ensures in
    let counts = slots_counts c.args.closed.slots in
    i.moved ∙ ap values_in (take_all c.loop-spot.spot (slots_items c.args.closed.slots) (omega arith))
