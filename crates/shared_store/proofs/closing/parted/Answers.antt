use Rattle.std.proofs.Common.{◌∙◌, ap, arith}
use Rattle.std.specs.Prelude.{Some}
use Rattle.std.proofs.lemmas.List.Elements.{All-pop, All-push, All-same}
use Rattle.shared_store.specs.Parting.{IsOnePass}
use Rattle.shared_store.specs.Tools.{AreAtHome, ToolsView}
use Rattle.shared_store.proofs.Parting.{one_more}
use Rattle.shared_store.proofs.closing.parted.Goals as goal

pub loop-tools-preserved : goal.loop-tools-preserved
loop-tools-preserved c =
    let i = c.loop-tools.invariant in
    let commons = c.args.commons.now in
    let owners = commons.base.owners in
    let tools = c.in-Some.tools in
    let pop = c.in-Some.ensures in
    let passes = c.push_reserved.ensures in
    let cells = c.push_reserved-in-Some.ensures in
    let records = c.push_reserved-in-Some-2.ensures in
    let blocks = c.push_reserved-in-Some-3.ensures in
    let all = c.loop-tools.all.items in
    let rest = c.pop.new.self.items in
    let (less, own) = All-pop (AreAtHome commons) all rest (Some tools) pop.items i.home in
    let pages = ap (λ (t : ToolsView). t.pages.table) c.tools.view_is ∙ own.of.pages in
    let one = All-push (IsOnePass commons.base.arena) c.loop-tools.passes.items c.tools.inside.pages i.passes.0 ((pages, c.tools.invariant.0), c.tools.invariant.1) in
    let fewer = pop.cases in
    record {
      home = less;
      passes = (All-same (IsOnePass commons.base.arena) _ _ passes.items one, omega (arith, fewer, passes.len, i.passes.1));
      cells = one_more commons.cells owners (λ t. t.cells) c.args.all.items all rest tools _ _ _ pop.items cells.items
          (ap (λ (t : ToolsView). t.cells) c.tools.view_is) (record { of = own.of.cells; none = own.none.cells }) i.cells;
      records = one_more commons.records owners (λ t. t.records) c.args.all.items all rest tools _ _ _ pop.items records.items
          (ap (λ (t : ToolsView). t.records) c.tools.view_is) (record { of = own.of.records; none = own.none.records }) i.records;
      blocks = one_more commons.blocks owners (λ t. t.blocks) c.args.all.items all rest tools _ _ _ pop.items blocks.items
          (ap (λ (t : ToolsView). t.blocks) c.tools.view_is) (record { of = own.of.blocks; none = own.none.blocks }) i.blocks;
      lens = (omega (arith, cells.len, passes.len, i.lens.0), omega (arith, records.len, passes.len, i.lens.1), omega (arith, blocks.len, passes.len, i.lens.2));
      room = (
        omega (arith, passes.capacity, i.room.0),
        omega (arith, cells.capacity, i.room.1),
        omega (arith, records.capacity, i.room.2),
        omega (arith, blocks.capacity, i.room.3),
      );
    }
