use Rattle.std.proofs.Common.{◌≡◌, ap, arith}
use Rattle.std.specs.Prelude.{Some}
use Rattle.std.proofs.lemmas.List.Elements.{All-pop, All-push, All-same}
use Rattle.shared_row.specs.Views.{fresh_pass}
use Rattle.shared_store.specs.Making.{IsUnused}
use Rattle.shared_store.specs.Tools.{AreAtHome}
use Rattle.shared_store.proofs.Keeping.{at_home}
use Rattle.shared_store.proofs.opening.assembled.Goals as goal

pub loop-pages-preserved : goal.loop-pages-preserved
loop-pages-preserved c =
    let i = c.loop-pages.invariant in
    let commons = c.args.commons.now in
    let owners = commons.base.owners in
    let pop = c.in-Some.ensures in
    let push = c.push_reserved.ensures in
    let cell = c.take_last-cells.ensures in
    let record' = c.take_last-records.ensures in
    let block = c.take_last-blocks.ensures in
    let (passes, pass) = All-pop (λ p. p ≡ fresh_pass commons.base.arena.table) c.loop-pages.passes.items c.pop.new.self.items (Some c.in-Some.pages) pop.items i.passes in
    let (cells, own_cells) = All-pop (IsUnused commons.cells owners) c.loop-pages.cells.items c.take_last-cells.new.self.items (Some c.take_last-cells.result) cell.items i.cells.1 in
    let (records, own_records) = All-pop (IsUnused commons.records owners) c.loop-pages.records.items c.take_last-records.new.self.items (Some c.take_last-records.result) record'.items i.records.1 in
    let (blocks, own_blocks) = All-pop (IsUnused commons.blocks owners) c.loop-pages.blocks.items c.take_last-blocks.new.self.items (Some c.take_last-blocks.result) block.items i.blocks.1 in
    let made = at_home commons c.in-Some.pages c.take_last-cells.result c.take_last-records.result c.take_last-blocks.result c.new.result c.new.ensures (ap (λ p. p.table) pass) own_cells own_records own_blocks in
    record {
      passes = passes;
      cells = (omega (arith, pop.cases, cell.len, i.cells.0), cells);
      records = (omega (arith, pop.cases, record'.len, i.records.0), records);
      blocks = (omega (arith, pop.cases, block.len, i.blocks.0), blocks);
      all = All-same (AreAtHome commons) c.push_reserved.new.self.items _ push.items (All-push (AreAtHome commons) c.loop-pages.all.items _ i.all made);
      len = omega (arith, pop.cases, push.len, i.len);
      room = omega (arith, push.capacity, i.room);
    }
