use Rattle.std.proofs.Common.{◌≡◌, ◌<◌, List, [], ◌∷◌, ap, ◌∙◌, refl, arith}
use Rattle.atomic_table.specs.Seated.{TableId}
use Rattle.atomic_table.specs.declared.shared.Seat.{Seat}
use Rattle.owners_table.specs.declared.owning.OwnerSheet.{OwnerSheet}
use Rattle.owners_table.specs.Sheets.{first_or}
use Rattle.owners_table.specs.Owning.{blank, fresh, seat_view}
use Rattle.owners_table.proofs.OwningSteps.{splits}
use Rattle.owners_table.proofs.Dealing.{deals-none, room-left, first-blank, last-blank, deals-one, deals-last, still-single}
use Rattle.owners_table.proofs.owners.dealt.Goals as goal

-- the view of a seat that was just dealt
seat-dealt : (p : Seat (Unit {0}) (List OwnerSheet)) (table : TableId) → p.table_id ≡ table → p.me.0 ≡ blank ∷ [] → seat_view p ≡ fresh table
seat-dealt p table e m = λ i. record { table = e i; held = (first_or blank (m i)).held; tries = (first_or blank (m i)).tries; notes = (first_or blank (m i)).notes; fetches = (first_or blank (m i)).fetches; shelved = (first_or blank (m i)).shelved; got = (first_or blank (m i)).got }

pub split_seat-seat-requires : goal.split_seat-seat-requires
split_seat-seat-requires c =
    let some : 0 < c.args.table.shared.table_id.words = omega (arith, c.requires.words.0) in (c.loop-i.invariant.table, some, splits _ _ _ _)

pub loop-i-init : goal.loop-i-init
loop-i-init c =
    let t = c.requires.rest in
    let a = c.in_ok-all.ensures in
    deals-none _ _ _ _ _ _ _ _ _ t.0 _ refl c.requires.some (ap (λ m. m.0) t.1) (ap (λ m. m.1) t.1) a.len refl a.capacity a.items

pub loop-i-preserved : goal.loop-i-preserved
loop-i-preserved c =
    let s = c.split_seat-seat.ensures in
    let p = c.push_reserved.ensures in
    deals-one _ _ _ _ _ _ _ _ _ c.loop-i.invariant c.loop-i-test.true c.split_seat-seat.result _ _ _ _ _ s.3 (ap (λ m. m.0) s.4) (seat-dealt c.split_seat-seat.result _)
    s.0 (ap (λ m. m.0) s.2) (ap (λ m. m.1) s.2) p.len (λ room. omega (arith, room, p.capacity)) p.items

pub invariant_of-push_reserved : goal.invariant_of-push_reserved
invariant_of-push_reserved c =
    let same = c.split_seat-seat.ensures.4 in
    still-single blank blank _ _ _ (first-blank _ _ _ _ _ _ _ _ _ c.loop-i.invariant _ (ap (λ m. m.0) same)) (ap (λ m. m.1) same) refl

pub push_reserved-requires : goal.push_reserved-requires
push_reserved-requires c = room-left _ _ _ _ _ _ _ _ _ c.loop-i.invariant (c.loop-i.auto._i-end c.requires.some)

pub invariant_of-push_reserved-2 : goal.invariant_of-push_reserved-2
invariant_of-push_reserved-2 c =
    still-single blank blank _ _ _ (last-blank _ _ _ _ _ _ _ _ _ c.loop-i.invariant c.loop-i-test.false) refl c.loop-i.invariant.bare

pub push_reserved-requires-2 : goal.push_reserved-requires-2
push_reserved-requires-2 c = room-left _ _ _ _ _ _ _ _ _ c.loop-i.invariant (c.loop-i.auto._i-end c.requires.some)

pub returns-clause-seats : goal.returns-clause-seats
returns-clause-seats c =
    let i = c.loop-i.invariant in
    let p = c.push_reserved-2.ensures in
    let end = c.loop-i-test.false in
    deals-last _ _ _ _ _ _ _ _ _ i (c.loop-i.auto._i-end c.requires.some) end _ _ _ p.len p.items
    (seat-dealt c.loop-i.rest _ i.table (last-blank _ _ _ _ _ _ _ _ _ i end))
