use Rattle.std.proofs.Common.{◌≡◌, ℕ, ◌+◌, List, length, rules, sym, ap, subst, arith}
use Rattle.std.specs.Slots.{slots_items}
use Rattle.owners_table.specs.Owning.{OwnersView}
use Rattle.owners_table.proofs.OwningEnd.{AreRead, none-read, next-read, read-all, read-held, read-words, read-one, read-low}
use Rattle.owners_table.proofs.owners.Owners.close.Goals as goal

pub loop-slot-init : goal.loop-slot-init
loop-slot-init c = record {
  words = none-read (slots_items c.ended-closed.result.words) c.in_ok-words.words.items;
  count = ap (λ (ws : List ℕ). length ws) c.in_ok-words.ensures.items;
  len = c.in_ok-words.ensures.len;
  room = c.in_ok-words.ensures.capacity;
}

pub loop-slot-preserved : goal.loop-slot-preserved
loop-slot-preserved c =
    let i = c.loop-slot.invariant in
    let p = c.push_reserved.ensures in
    let ws = slots_items c.ended-closed.result.words in record {
      words = subst (AreRead ws (c.loop-slot.slot + 1)) (sym p.items)
          (next-read ws c.loop-slot.slot c.word.result c.loop-slot.words.items i.count i.words (subst (λ (k : ℕ). lib.ListN.get_elem? ws k ≡ mathlib.Core.Option.some c.word.result) c.place.ensures.is c.word.ensures));
      count = let n = ap (λ (ws : List ℕ). length ws) p.items in omega (arith, i.count, n);
      len = omega (arith, i.len, p.len);
      room = omega (arith, i.room, p.capacity);
    }

pub returns-clause-held : goal.returns-clause-held
returns-clause-held c =
    let read = read-all (slots_items c.ended-closed.result.words) c.loop-slot.slot c.loop-slot.words.items c.self.inside.slots c.loop-slot.invariant.count c.loop-slot.invariant.words (ap (λ (o : OwnersView). o.slots) c.self.view_is) c.loop-slot.auto.slot-end c.loop-slot-test.false in
    read-held c.args.self c.args.seats.items (slots_items c.ended-closed.result.words) c.ended-closed.ensures.left c.loop-slot.words.items read.0 read.1

pub returns-clause-words : goal.returns-clause-words
returns-clause-words c whole =
    let read = read-all (slots_items c.ended-closed.result.words) c.loop-slot.slot c.loop-slot.words.items c.self.inside.slots c.loop-slot.invariant.count c.loop-slot.invariant.words (ap (λ (o : OwnersView). o.slots) c.self.view_is) c.loop-slot.auto.slot-end c.loop-slot-test.false in
    let all : length c.args.seats.items ≡ c.args.self.seats = search rules in
    read-words c.args.self c.args.seats.items (slots_items c.ended-closed.result.words) c.ended-closed.ensures.left c.loop-slot.words.items read.0 read.1 all

pub returns-clause-one : goal.returns-clause-one
returns-clause-one c whole =
    let read = read-all (slots_items c.ended-closed.result.words) c.loop-slot.slot c.loop-slot.words.items c.self.inside.slots c.loop-slot.invariant.count c.loop-slot.invariant.words (ap (λ (o : OwnersView). o.slots) c.self.view_is) c.loop-slot.auto.slot-end c.loop-slot-test.false in
    let all : length c.args.seats.items ≡ c.args.self.seats = search rules in
    read-one c.args.self c.args.seats.items (slots_items c.ended-closed.result.words) c.ended-closed.ensures.left c.loop-slot.words.items read.0 read.1 all

pub returns-clause-free : goal.returns-clause-free
returns-clause-free c whole =
    let read = read-all (slots_items c.ended-closed.result.words) c.loop-slot.slot c.loop-slot.words.items c.self.inside.slots c.loop-slot.invariant.count c.loop-slot.invariant.words (ap (λ (o : OwnersView). o.slots) c.self.view_is) c.loop-slot.auto.slot-end c.loop-slot-test.false in
    let all : length c.args.seats.items ≡ c.args.self.seats = search rules in
    read-low c.args.self c.args.seats.items (slots_items c.ended-closed.result.words) c.ended-closed.ensures.left c.loop-slot.words.items read.0 read.1 all
