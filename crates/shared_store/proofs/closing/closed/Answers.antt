use Rattle.std.proofs.Common.{ℕ, ◌∙◌, vec_len, All, length, refl, sym, ap, subst, arith}
use Rattle.std.specs.Prelude.{Some}
use Rattle.std.proofs.lemmas.List.{length-map}
use Rattle.std.proofs.lemmas.List.Elements.{All-nil, All-pop}
use Rattle.shared_store.specs.Closing.{blocks_of, cells_of, records_of}
use Rattle.shared_store.specs.Making.{HasHands}
use Rattle.shared_store.specs.Parting.{IsFree, IsOnePass}
use Rattle.shared_store.specs.Room.{IsRoom}
use Rattle.shared_store.proofs.Together.{closed_alike, first_fits, same_few, second_fits, third_fits, three_add, two_add}
use Rattle.shared_store.proofs.closing.closed.Goals as goal

pub parted-passes-requires-clause-home : goal.parted-passes-requires-clause-home
parted-passes-requires-clause-home c = c.requires.home

pub parted-passes-requires-clause-passes : goal.parted-passes-requires-clause-passes
parted-passes-requires-clause-passes c = c.requires.room.passes

pub parted-passes-requires-clause-cells : goal.parted-passes-requires-clause-cells
parted-passes-requires-clause-cells c = c.requires.room.cells.0

pub parted-passes-requires-clause-records : goal.parted-passes-requires-clause-records
parted-passes-requires-clause-records c = c.requires.room.records.0

pub parted-passes-requires-clause-blocks : goal.parted-passes-requires-clause-blocks
parted-passes-requires-clause-blocks c = c.requires.room.blocks.0

pub ended-cells-requires-clause-few : goal.ended-cells-requires-clause-few
ended-cells-requires-clause-few c = same_few _ _ (c.parted-passes.result.cells.ok.0 ∙ c.parted-passes.ensures.cells.count ∙ length-map c.args.all.items (λ t. t.cells) ∙ sym c.args.all.ok.0) c.requires.few

pub ended-cells-requires-clause-made : goal.ended-cells-requires-clause-made
ended-cells-requires-clause-made c = subst (λ (n : ℕ). HasHands n c.args.commons.cells) (sym (c.parted-passes.result.cells.ok.0 ∙ c.parted-passes.ensures.cells.count ∙ length-map c.args.all.items (λ t. t.cells) ∙ sym c.args.all.ok.0)) c.requires.made.cells

pub ended-cells-requires-clause-unused : goal.ended-cells-requires-clause-unused
ended-cells-requires-clause-unused c = c.parted-passes.ensures.cells.unused

pub ended-cells-requires-clause-room : goal.ended-cells-requires-clause-room
ended-cells-requires-clause-room c =
    let room = c.args.room.cells in
    subst (λ (n : ℕ). IsRoom n room.0 × IsRoom n room.1) (sym (c.parted-passes.result.cells.ok.0 ∙ c.parted-passes.ensures.cells.count ∙ length-map c.args.all.items (λ t. t.cells) ∙ sym c.args.all.ok.0)) (c.requires.room.cells.1, c.requires.room.cells.2)

pub ended-records-requires-clause-few : goal.ended-records-requires-clause-few
ended-records-requires-clause-few c = same_few _ _ (c.parted-passes.result.records.ok.0 ∙ c.parted-passes.ensures.records.count ∙ length-map c.args.all.items (λ t. t.records) ∙ sym c.args.all.ok.0) c.requires.few

pub ended-records-requires-clause-made : goal.ended-records-requires-clause-made
ended-records-requires-clause-made c = subst (λ (n : ℕ). HasHands n c.args.commons.records) (sym (c.parted-passes.result.records.ok.0 ∙ c.parted-passes.ensures.records.count ∙ length-map c.args.all.items (λ t. t.records) ∙ sym c.args.all.ok.0)) c.requires.made.records

pub ended-records-requires-clause-unused : goal.ended-records-requires-clause-unused
ended-records-requires-clause-unused c = c.parted-passes.ensures.records.unused

pub ended-records-requires-clause-room : goal.ended-records-requires-clause-room
ended-records-requires-clause-room c =
    let room = c.args.room.records in
    subst (λ (n : ℕ). IsRoom n room.0 × IsRoom n room.1) (sym (c.parted-passes.result.records.ok.0 ∙ c.parted-passes.ensures.records.count ∙ length-map c.args.all.items (λ t. t.records) ∙ sym c.args.all.ok.0)) (c.requires.room.records.1, c.requires.room.records.2)

pub ended-blocks-requires-clause-few : goal.ended-blocks-requires-clause-few
ended-blocks-requires-clause-few c = same_few _ _ (c.parted-passes.result.blocks.ok.0 ∙ c.parted-passes.ensures.blocks.count ∙ length-map c.args.all.items (λ t. t.blocks) ∙ sym c.args.all.ok.0) c.requires.few

pub ended-blocks-requires-clause-made : goal.ended-blocks-requires-clause-made
ended-blocks-requires-clause-made c = subst (λ (n : ℕ). HasHands n c.args.commons.blocks) (sym (c.parted-passes.result.blocks.ok.0 ∙ c.parted-passes.ensures.blocks.count ∙ length-map c.args.all.items (λ t. t.blocks) ∙ sym c.args.all.ok.0)) c.requires.made.blocks

pub ended-blocks-requires-clause-unused : goal.ended-blocks-requires-clause-unused
ended-blocks-requires-clause-unused c = c.parted-passes.ensures.blocks.unused

pub ended-blocks-requires-clause-room : goal.ended-blocks-requires-clause-room
ended-blocks-requires-clause-room c =
    let room = c.args.room.blocks in
    subst (λ (n : ℕ). IsRoom n room.0 × IsRoom n room.1) (sym (c.parted-passes.result.blocks.ok.0 ∙ c.parted-passes.ensures.blocks.count ∙ length-map c.args.all.items (λ t. t.blocks) ∙ sym c.args.all.ok.0)) (c.requires.room.blocks.1, c.requires.room.blocks.2)

pub ended-cells-requires-clause-seats : goal.ended-cells-requires-clause-seats
ended-cells-requires-clause-seats c =
    let seats = c.requires.room.seats in (
      subst (All (IsFree c.args.commons.base.owners)) (sym seats.0) (All-nil (IsFree c.args.commons.base.owners)),
      first_fits (vec_len c.args.all) _ _ _ (c.args.room.seats.ok.0 ∙ ap length seats.0) (c.parted-passes.result.cells.ok.0 ∙ c.parted-passes.ensures.cells.count ∙ length-map c.args.all.items (λ t. t.cells) ∙ sym c.args.all.ok.0) seats.1,
    )

pub ended-cells-requires-clause-pages : goal.ended-cells-requires-clause-pages
ended-cells-requires-clause-pages c =
    let parts = c.parted-passes in
    (All-pop (IsOnePass c.args.commons.base.arena) parts.result.passes.items c.pop.new.self.items (Some c.in-Some.pages) c.in-Some.ensures.items parts.ensures.passes.0).1

pub ended-records-requires-clause-seats : goal.ended-records-requires-clause-seats
ended-records-requires-clause-seats c =
    let seats = c.requires.room.seats in
    let cells = c.ended-cells.ensures.seats in
    (cells.0, second_fits (vec_len c.args.all) _ _ _ _ _ _ (c.args.room.seats.ok.0 ∙ ap length seats.0) (c.parted-passes.result.cells.ok.0 ∙ c.parted-passes.ensures.cells.count ∙ length-map c.args.all.items (λ t. t.cells) ∙ sym c.args.all.ok.0) (c.parted-passes.result.records.ok.0 ∙ c.parted-passes.ensures.records.count ∙ length-map c.args.all.items (λ t. t.records) ∙ sym c.args.all.ok.0) cells.1 cells.2 seats.1)

pub ended-records-requires-clause-pages : goal.ended-records-requires-clause-pages
ended-records-requires-clause-pages c = c.ended-cells.ensures.pages

pub ended-blocks-requires-clause-seats : goal.ended-blocks-requires-clause-seats
ended-blocks-requires-clause-seats c =
    let seats = c.requires.room.seats in
    let cells = c.ended-cells.ensures.seats in
    let records = c.ended-records.ensures.seats in (
      records.0,
      third_fits (vec_len c.args.all) _ _ _ _ _ _ _ _ _ (c.args.room.seats.ok.0 ∙ ap length seats.0) (c.parted-passes.result.cells.ok.0 ∙ c.parted-passes.ensures.cells.count ∙ length-map c.args.all.items (λ t. t.cells) ∙ sym c.args.all.ok.0) (c.parted-passes.result.records.ok.0 ∙ c.parted-passes.ensures.records.count ∙ length-map c.args.all.items (λ t. t.records) ∙ sym c.args.all.ok.0) (c.parted-passes.result.blocks.ok.0 ∙ c.parted-passes.ensures.blocks.count ∙ length-map c.args.all.items (λ t. t.blocks) ∙ sym c.args.all.ok.0) cells.1 records.1 cells.2 records.2 seats.1,
    )

pub ended-blocks-requires-clause-pages : goal.ended-blocks-requires-clause-pages
ended-blocks-requires-clause-pages c = c.ended-records.ensures.pages

pub overflow_add-result : goal.overflow_add-result
overflow_add-result c = omega (arith, two_add _ _ c.ended-cells.ensures.ended.few.0 c.ended-records.ensures.ended.few.0)

pub overflow_add-result-2 : goal.overflow_add-result-2
overflow_add-result-2 c = omega (arith, three_add _ _ _ c.ended-cells.ensures.ended.few.0 c.ended-records.ensures.ended.few.0 c.ended-blocks.ensures.ended.few.0)

pub overflow_add-result-3 : goal.overflow_add-result-3
overflow_add-result-3 c = omega (arith, two_add _ _ c.ended-cells.ensures.ended.few.1 c.ended-records.ensures.ended.few.1)

pub overflow_add-result-4 : goal.overflow_add-result-4
overflow_add-result-4 c = omega (arith, three_add _ _ _ c.ended-cells.ensures.ended.few.1 c.ended-records.ensures.ended.few.1 c.ended-blocks.ensures.ended.few.1)

pub base_ended-requires-clause-passes : goal.base_ended-requires-clause-passes
base_ended-requires-clause-passes c =
    let parts = c.parted-passes in
    let (less, own) = All-pop (IsOnePass c.args.commons.base.arena) parts.result.passes.items c.pop.new.self.items (Some c.in-Some.pages) c.in-Some.ensures.items parts.ensures.passes.0 in
    (less, c.ended-blocks.ensures.pages)

pub returns : goal.returns
returns c =
    let all = c.args.all.items in
    let parts = c.parted-passes.ensures in
    let cells = c.ended-cells.ensures.ended in
    let records = c.ended-records.ensures.ended in
    let blocks = c.ended-blocks.ensures.ended in
    record {
      cells = c.ended-cells.result.totals;
      records = c.ended-records.result.totals;
      blocks = c.ended-blocks.result.totals;
      kinds = refl;
      cells_are = closed_alike (cells_of all) _ _ parts.cells.alike cells.closed;
      records_are = closed_alike (records_of all) _ _ parts.records.alike records.closed;
      blocks_are = closed_alike (blocks_of all) _ _ parts.blocks.alike blocks.closed;
      clashes = omega (arith, cells.clashes, records.clashes, blocks.clashes, parts.cells.alike (λ s. s.clashes), parts.records.alike (λ s. s.clashes), parts.blocks.alike (λ s. s.clashes));
      strays = omega (arith, cells.strays, records.strays, blocks.strays, parts.cells.alike (λ s. s.strays), parts.records.alike (λ s. s.strays), parts.blocks.alike (λ s. s.strays));
      owned = c.base_ended.ensures;
    }
