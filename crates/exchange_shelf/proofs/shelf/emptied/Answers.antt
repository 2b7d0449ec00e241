use Rattle.std.proofs.Common.{◌+◌, ℕ, subst, sym, ap, ◌∙◌, arith}
use Rattle.std.specs.Slots.{slots_items, slots_len, slots_filled, slots_counts}
use Rattle.exchange_shelf.proofs.Emptying.{AreEmptied, passes-it, empties-it, begins-empty, read, not-both}
use Rattle.exchange_shelf.proofs.shelf.emptied.Goals.{then-slot-shelf+in-None, else-slot-shelf}
use Rattle.exchange_shelf.proofs.shelf.emptied.Goals as goal

pub loop-slot-preserved : goal.loop-slot-preserved
loop-slot-preserved g c =
    let i = c.loop-slot.invariant in
    let count : ℕ = slots_len c.args.closed.slots in
    elim c.if-slot-shelf.branch [
      | then-slot-shelf+in-None w ↦
          let t = w.take.ensures.others in
          let counts = slots_counts c.loop-slot.closed.slots in
          let more = c.loop-slot-test.true in
          let end = c.slot_count-slot-end.ensures in
          let begin = c.take-object.ensures.others.2 in
          let len = i.len in record {
            items = ap (λ z. slots_items z.slots) w.closed-is ∙ (t.0 ∙ i.items);
            len = ap (λ z. slots_len z.slots) w.closed-is ∙ (t.2 ∙ i.len);
            emptied = subst (λ z. AreEmptied count c.word-shelf.result (slots_filled z.slots) (c.loop-slot.slot + 1)) (sym w.closed-is)
                (empties-it count _ _ _ _ i.emptied w.if-slot-shelf.true (omega arith) t.1);
          }
      | else-slot-shelf w ↦ record {
        items = ap (λ z. slots_items z.slots) w.closed-is ∙ i.items;
        len = ap (λ z. slots_len z.slots) w.closed-is ∙ i.len;
        emptied = subst (λ z. AreEmptied count c.word-shelf.result (slots_filled z.slots) (c.loop-slot.slot + 1)) (sym w.closed-is)
            (passes-it count _ _ _ i.emptied w.if-slot-shelf.false);
      }
    ]

pub loop-slot-init : goal.loop-slot-init
loop-slot-init g c =
    let t = c.take-object.ensures.others in
    let counts = slots_counts c.args.closed.slots in
    let shelf = read (slots_items c.args.closed.words) 16 c.word-shelf.result c.word-shelf.ensures in
    let inside = c.requires.empty.inside in record {
      items = t.0;
      len = t.2;
      emptied = begins-empty (slots_len c.args.closed.slots) c.word-shelf.result _ _ (λ k below. c.requires.full.1 k (omega arith) below) (omega arith) t.1;
    }

pub take-requires : goal.take-requires
take-requires g c =
    let i = c.loop-slot.invariant in
    let more = c.loop-slot-test.true in
    let end = c.slot_count-slot-end.ensures in
    let begin = c.take-object.ensures.others.2 in
    let len = i.len in
    (omega arith, i.emptied.full c.loop-slot.slot (omega arith) (omega arith) c.if-slot-shelf.true)

pub unreachable-requires : goal.unreachable-requires
unreachable-requires g c =
    let i = c.loop-slot.invariant in
    let counts = slots_counts c.args.closed.slots in
    let more = c.loop-slot-test.true in
    let end = c.slot_count-slot-end.ensures in
    let begin = c.take-object.ensures.others.2 in
    let shelf = read (slots_items c.args.closed.words) 16 c.word-shelf.result c.word-shelf.ensures in
    not-both (slots_items c.args.closed.slots) c.loop-slot.slot c.take.result c.in-Some.field-0
    (c.requires.empty.others c.loop-slot.slot (omega arith) (λ e. c.if-slot-shelf.true (sym e ∙ shelf)))
    (ap (λ xs. lib.ListN.get_elem? xs c.loop-slot.slot) (sym i.items) ∙ c.take.ensures.value) c.in-Some.is

pub free-requires : goal.free-requires
free-requires g c k below =
    let i = c.loop-slot.invariant in
    let over = c.loop-slot-test.false in
    let end = c.slot_count-slot-end.ensures in
    let begin = c.take-object.ensures.others.2 in
    let len = i.len in
    i.emptied.taken k (omega arith)
