use Rattle.std.proofs.Common.{◌≡◌, ℕ, ◌∙◌, refl, ap, subst, sym}
use Rattle.ebpf_object.specs.Object.{kind_of}
use Rattle.ebpf_object.specs.declared.object.Object.TheVariants.{Cell, Record, Block}
use Rattle.ebpf_owned.specs.Exchanges.{one_if}
use Rattle.ebpf_owned.proofs.Passing.{whatever}
use Rattle.owners_table.specs.Marking.{mark_word}
use Rattle.shared_store.specs.Stock.{Answers, IsOf}
use Rattle.shared_store.specs.Tools.{ToolsView, held_at}
use Rattle.shared_store.specs.contracts.tools.Tools.{the_view}
use Rattle.shared_store.proofs.ByKind.{mapped}
use Rattle.shared_store.proofs.Replying.{as_seen, blocks_reply, cells_reply, records_reply, exchanged_of, offered_of, put_of, same_ones, with_blocks, with_cells, with_records}
use Rattle.shared_store.proofs.tools.Tools.swap.Goals as goal

pub swap-requires-clause-of : goal.swap-requires-clause-of
swap-requires-clause-of c = subst (λ (t : ToolsView). IsOf c.args.commons.now.cells c.args.commons.now.base.owners t.cells) (sym c.self.view_is) c.requires.of.cells

pub swap-requires-clause-given : goal.swap-requires-clause-given
swap-requires-clause-given c =
    offered_of (λ o. o.slot) Cell (λ _. refl) c.in-Cells.given c.args.given c.args.shelf (the_view c.self.inside) c.args.self.now 0 c.in-Cells.ensures.object c.in-Cells.ensures.shelf c.self.view_is
    c.requires.given

pub invariant_of-self : goal.invariant_of-self
invariant_of-self c = c.self.invariant

pub returns-in-Cells-clause-kind : goal.returns-in-Cells-clause-kind
returns-in-Cells-clause-kind c =
    mapped (λ _. Unit {0}) (λ o. kind_of o ≡ c.args.shelf) _ c.swap.result c.map.result c.map.ensures.cases (λ x y is _. ap kind_of is ∙ c.in-Cells.ensures.shelf) (whatever c.swap.result)

pub returns-in-Cells-clause-passed : goal.returns-in-Cells-clause-passed
returns-in-Cells-clause-passed c =
    let old = the_view c.self.inside in
    exchanged_of (λ o. o.slot) Cell (λ _. refl) c.in-Cells.given c.args.given c.swap.result c.map.result (mark_word c.args.mark.run c.args.mark.at) _ _ _ _
    c.in-Cells.ensures.object c.map.ensures.cases (ap (held_at old) c.in-Cells.ensures.shelf ∙ ap (λ (t : ToolsView). held_at t c.args.shelf) c.self.view_is)
    (ap (held_at (with_cells old old.pages c.swap.new.self)) c.in-Cells.ensures.shelf) c.swap.ensures.passed

pub returns-in-Cells-clause-replies : goal.returns-in-Cells-clause-replies
returns-in-Cells-clause-replies c =
    let old = the_view c.self.inside in
    let answers = subst (λ (n : ℕ). Answers old.cells c.swap.new.self 0 0 n) (same_ones _ c.swap.result c.map.result c.map.ensures.cases) c.swap.ensures.answers in
    as_seen c.args.self.now old _ c.args.shelf 0 0 (one_if c.map.result) c.self.view_is
    (cells_reply old old.pages c.swap.new.self 0 0 (one_if c.map.result) refl c.args.shelf c.in-Cells.ensures.shelf answers)

pub returns-in-Cells-clause-put : goal.returns-in-Cells-clause-put
returns-in-Cells-clause-put c =
    put_of Cell c.in-Cells.given c.args.given c.args.shelf 0 (the_view c.self.inside) c.args.self.now (with_cells (the_view c.self.inside) c.self.inside.pages c.swap.new.self)
    c.in-Cells.ensures.object c.in-Cells.ensures.shelf c.self.view_is c.swap.ensures.put

pub swap-requires-in-Records-clause-of : goal.swap-requires-in-Records-clause-of
swap-requires-in-Records-clause-of c = subst (λ (t : ToolsView). IsOf c.args.commons.now.records c.args.commons.now.base.owners t.records) (sym c.self.view_is) c.requires.of.records

pub swap-requires-in-Records-clause-given : goal.swap-requires-in-Records-clause-given
swap-requires-in-Records-clause-given c =
    offered_of (λ o. o.slot) Record (λ _. refl) c.in-Records.given c.args.given c.args.shelf (the_view c.self.inside) c.args.self.now 1 c.in-Records.ensures.object c.in-Records.ensures.shelf c.self.view_is
    c.requires.given

pub invariant_of-self-in-Records : goal.invariant_of-self-in-Records
invariant_of-self-in-Records c = c.self.invariant

pub returns-in-Records-clause-kind : goal.returns-in-Records-clause-kind
returns-in-Records-clause-kind c =
    mapped (λ _. Unit {0}) (λ o. kind_of o ≡ c.args.shelf) _ c.swap-in-Records.result c.map-in-Records.result c.map-in-Records.ensures.cases (λ x y is _. ap kind_of is ∙ c.in-Records.ensures.shelf) (whatever c.swap-in-Records.result)

pub returns-in-Records-clause-passed : goal.returns-in-Records-clause-passed
returns-in-Records-clause-passed c =
    let old = the_view c.self.inside in
    exchanged_of (λ o. o.slot) Record (λ _. refl) c.in-Records.given c.args.given c.swap-in-Records.result c.map-in-Records.result (mark_word c.args.mark.run c.args.mark.at) _ _ _ _
    c.in-Records.ensures.object c.map-in-Records.ensures.cases (ap (held_at old) c.in-Records.ensures.shelf ∙ ap (λ (t : ToolsView). held_at t c.args.shelf) c.self.view_is)
    (ap (held_at (with_records old old.pages c.swap-in-Records.new.self)) c.in-Records.ensures.shelf) c.swap-in-Records.ensures.passed

pub returns-in-Records-clause-replies : goal.returns-in-Records-clause-replies
returns-in-Records-clause-replies c =
    let old = the_view c.self.inside in
    let answers = subst (λ (n : ℕ). Answers old.records c.swap-in-Records.new.self 0 0 n) (same_ones _ c.swap-in-Records.result c.map-in-Records.result c.map-in-Records.ensures.cases) c.swap-in-Records.ensures.answers in
    as_seen c.args.self.now old _ c.args.shelf 0 0 (one_if c.map-in-Records.result) c.self.view_is
    (records_reply old old.pages c.swap-in-Records.new.self 0 0 (one_if c.map-in-Records.result) refl c.args.shelf c.in-Records.ensures.shelf answers)

pub returns-in-Records-clause-put : goal.returns-in-Records-clause-put
returns-in-Records-clause-put c =
    put_of Record c.in-Records.given c.args.given c.args.shelf 1 (the_view c.self.inside) c.args.self.now (with_records (the_view c.self.inside) c.self.inside.pages c.swap-in-Records.new.self)
    c.in-Records.ensures.object c.in-Records.ensures.shelf c.self.view_is c.swap-in-Records.ensures.put

pub swap-requires-in-Blocks-clause-of : goal.swap-requires-in-Blocks-clause-of
swap-requires-in-Blocks-clause-of c = subst (λ (t : ToolsView). IsOf c.args.commons.now.blocks c.args.commons.now.base.owners t.blocks) (sym c.self.view_is) c.requires.of.blocks

pub swap-requires-in-Blocks-clause-given : goal.swap-requires-in-Blocks-clause-given
swap-requires-in-Blocks-clause-given c =
    offered_of (λ o. o.slot) Block (λ _. refl) c.in-Blocks.given c.args.given c.args.shelf (the_view c.self.inside) c.args.self.now 2 c.in-Blocks.ensures.object c.in-Blocks.ensures.shelf c.self.view_is
    c.requires.given

pub invariant_of-self-in-Blocks : goal.invariant_of-self-in-Blocks
invariant_of-self-in-Blocks c = c.self.invariant

pub returns-in-Blocks-clause-kind : goal.returns-in-Blocks-clause-kind
returns-in-Blocks-clause-kind c =
    mapped (λ _. Unit {0}) (λ o. kind_of o ≡ c.args.shelf) _ c.swap-in-Blocks.result c.map-in-Blocks.result c.map-in-Blocks.ensures.cases (λ x y is _. ap kind_of is ∙ c.in-Blocks.ensures.shelf) (whatever c.swap-in-Blocks.result)

pub returns-in-Blocks-clause-passed : goal.returns-in-Blocks-clause-passed
returns-in-Blocks-clause-passed c =
    let old = the_view c.self.inside in
    exchanged_of (λ o. o.slot) Block (λ _. refl) c.in-Blocks.given c.args.given c.swap-in-Blocks.result c.map-in-Blocks.result (mark_word c.args.mark.run c.args.mark.at) _ _ _ _
    c.in-Blocks.ensures.object c.map-in-Blocks.ensures.cases (ap (held_at old) c.in-Blocks.ensures.shelf ∙ ap (λ (t : ToolsView). held_at t c.args.shelf) c.self.view_is)
    (ap (held_at (with_blocks old old.pages c.swap-in-Blocks.new.self)) c.in-Blocks.ensures.shelf) c.swap-in-Blocks.ensures.passed

pub returns-in-Blocks-clause-replies : goal.returns-in-Blocks-clause-replies
returns-in-Blocks-clause-replies c =
    let old = the_view c.self.inside in
    let answers = subst (λ (n : ℕ). Answers old.blocks c.swap-in-Blocks.new.self 0 0 n) (same_ones _ c.swap-in-Blocks.result c.map-in-Blocks.result c.map-in-Blocks.ensures.cases) c.swap-in-Blocks.ensures.answers in
    as_seen c.args.self.now old _ c.args.shelf 0 0 (one_if c.map-in-Blocks.result) c.self.view_is
    (blocks_reply old old.pages c.swap-in-Blocks.new.self 0 0 (one_if c.map-in-Blocks.result) refl c.args.shelf c.in-Blocks.ensures.shelf answers)

pub returns-in-Blocks-clause-put : goal.returns-in-Blocks-clause-put
returns-in-Blocks-clause-put c =
    put_of Block c.in-Blocks.given c.args.given c.args.shelf 2 (the_view c.self.inside) c.args.self.now (with_blocks (the_view c.self.inside) c.self.inside.pages c.swap-in-Blocks.new.self)
    c.in-Blocks.ensures.object c.in-Blocks.ensures.shelf c.self.view_is c.swap-in-Blocks.ensures.put
