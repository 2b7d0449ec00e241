use Rattle.std.proofs.Common.{◌+◌, ◌++◌, All, sym, ap, ◌∙◌, subst, arith}
use Rattle.std.specs.Prelude.{sum_by}
use Rattle.shared_row.specs.Views.{PassView, RowView, IsIdleAt, all_none}
use Rattle.shared_row.proofs.Lists.{all_front, all_last, last-first, sum-last}
use Rattle.shared_row.proofs.Steps.{joining}
use Rattle.shared_row.proofs.row.Row.joined.Goals as goal

pub loop-other-init : goal.loop-other-init
loop-other-init g c =
    let items = c.in-Some.ensures.items in
    let rest = c.pop.new.self.items in
    let all = subst (All (IsIdleAt c.args.self.now.table)) items c.requires.passes in
    let own = all_last (IsIdleAt c.args.self.now.table) rest _ all in
    let held = ap (λ (v : PassView). v.out) c.first.view_is ∙ own.1 in record {
      table = ap (λ (v : PassView). v.table) c.first.view_is ∙ own.0;
      bare = c.first.invariant.1 ∙ ap all_none held;
      held = held;
      some = c.first.invariant.0;
      parts = ap (λ (v : PassView). v.parts + sum_by (λ (p : PassView). p.parts) rest) c.first.view_is
          ∙ last-first (λ (v : PassView). v.parts) _ rest _ items;
      left = ap (λ (v : PassView). v.left + sum_by (λ (p : PassView). p.left) rest) c.first.view_is
          ∙ last-first (λ (v : PassView). v.left) _ rest _ items;
      right = ap (λ (v : PassView). v.right + sum_by (λ (p : PassView). p.right) rest) c.first.view_is
          ∙ last-first (λ (v : PassView). v.right) _ rest _ items;
      rest = all_front (IsIdleAt c.args.self.now.table) rest _ all;
    }

pub join_seat-requires : goal.join_seat-requires
join_seat-requires g c =
    let i = c.loop-other.invariant in
    let items = c.in-Some-pop.ensures.items in
    let all = subst (All (IsIdleAt c.args.self.now.table)) items i.rest in
    let own = all_last (IsIdleAt c.args.self.now.table) c.pop-in-loop-other.new.self.items _ all in
    let here = sym (ap (λ (o : RowView). o.table) c.self.view_is) in
    let words = c.self.invariant.1 in
    let held = ap (λ (v : PassView). v.out) c.other.view_is ∙ own.1 in (
      i.table ∙ here,
      ap (λ (v : PassView). v.table) c.other.view_is ∙ (own.0 ∙ here),
      c.other.invariant.1 ∙ ap all_none held,
      omega arith,
      joining g.P.Scale.left g.P.Scale.right _ _ _ _ _ _ i.some,
    )

pub loop-other-preserved : goal.loop-other-preserved
loop-other-preserved g c =
    let i = c.loop-other.invariant in
    let items = c.in-Some-pop.ensures.items in
    let rest = c.pop-in-loop-other.new.self.items in
    let all = subst (All (IsIdleAt c.args.self.now.table)) items i.rest in
    let own = all_last (IsIdleAt c.args.self.now.table) rest _ all in
    let held = ap (λ (v : PassView). v.out) c.other.view_is ∙ own.1 in
    let j = c.join_seat.ensures in
    record {
      table = j.0 ∙ i.table;
      bare = ap (λ m. m.1) j.2 ∙ i.bare;
      held = ap (λ m. m.0.held) j.2 ∙ (ap (λ ks. ks ++ c.other.inside.seat.me.0.held) i.held ∙ held);
      some = let e = ap (λ m. m.0.parts) j.2 in let s = i.some in omega arith;
      parts =
          let s = sum-last (λ (v : PassView). v.parts) _ rest _ items in
          let e = ap (λ (v : PassView). v.parts) c.other.view_is in
          let n = ap (λ m. m.0.parts) j.2 in
          let q = i.parts in
          omega arith;
      left =
          let s = sum-last (λ (v : PassView). v.left) _ rest _ items in
          let e = ap (λ (v : PassView). v.left) c.other.view_is in
          let n = ap (λ m. m.0.left) j.2 in
          let q = i.left in
          omega arith;
      right =
          let s = sum-last (λ (v : PassView). v.right) _ rest _ items in
          let e = ap (λ (v : PassView). v.right) c.other.view_is in
          let n = ap (λ m. m.0.right) j.2 in
          let q = i.right in
          omega arith;
      rest = all_front (IsIdleAt c.args.self.now.table) rest _ all;
    }
