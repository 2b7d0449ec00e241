use Rattle.std.proofs.Common.{◌≡◌, ◌+◌, ◌-◌, [], All, subst, refl, sym, ap, ◌∙◌, arith}
use Rattle.std.proofs.lemmas.List.Elements.{All-push}
use Rattle.exchange_shelf.specs.Passing.{one_less}
use Rattle.exchange_shelf.specs.Views.{ShelfView, HandView, fresh_hand}
use Rattle.exchange_shelf.proofs.Steps.{splitting, one-dealt, first-dealt}
use Rattle.exchange_shelf.proofs.shelf.dealt.Goals as goal

pub split_seat-seat-requires : goal.split_seat-seat-requires
split_seat-seat-requires g c =
    let i = c.loop-place.invariant in
    let words = c.shelf.invariant.0 in
    let more = c.loop-place-test.true in (
      i.table ∙ sym (ap (λ (o : ShelfView). o.table) c.shelf.view_is),
      omega arith,
      splitting _ _ _ _ (c.args.hands - c.loop-place.place) _ i.sheet (omega arith),
    )

pub hand-requires-clause-due : goal.hand-requires-clause-due
hand-requires-clause-due g c =
    let i = c.loop-place.invariant in
    let more = c.loop-place-test.true in
    c.split_seat-seat.ensures.4 ∙ λ k. (first-dealt _ _ (c.args.hands - (c.loop-place.place + 1)) _ _ i.sheet (omega arith) c.slot_of.ensures k, [])

pub loop-place-preserved : goal.loop-place-preserved
loop-place-preserved g c =
    let i = c.loop-place.invariant in
    let s = c.split_seat-seat.ensures in
    let p = c.push_reserved.ensures in
    let more = c.loop-place-test.true in record {
      table = s.0 ∙ i.table;
      sheet = ap (λ m. m.0) s.2 ∙ (ap one_less i.sheet ∙ one-dealt _ _ _ _ (omega arith) refl);
      bare = ap (λ m. m.1) s.2 ∙ i.bare;
      len = omega (arith, i.len, p.len);
      room = omega (arith, i.room, p.capacity);
      all = subst (All (λ (h : HandView). h ≡ fresh_hand c.args.shelf.now.table)) (sym p.items)
          (All-push (λ (h : HandView). h ≡ fresh_hand c.args.shelf.now.table) c.loop-place.all.items _ i.all c.hand.ensures);
    }
