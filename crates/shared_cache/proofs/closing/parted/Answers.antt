use Rattle.std.proofs.Common.{◌≡◌, ◌∙◌, ap, arith}
use Rattle.std.specs.Prelude.{Some}
use Rattle.std.proofs.lemmas.List.Elements.{All-pop, All-push, All-same}
use Rattle.std.proofs.lemmas.List.Sums.{sum_by_push}
use Rattle.shared_row.specs.Views.{IsIdleAt}
use Rattle.shared_cache.specs.HandView.{objects}
use Rattle.shared_cache.proofs.Weights.{sum_last}
use Rattle.shared_cache.specs.declared.sums.Sums.{Sums}
use Rattle.shared_cache.proofs.closing.parted.Goals as goal

pub loop-hand-preserved : goal.loop-hand-preserved
loop-hand-preserved g c =
    let i = c.loop-hand.invariant in
    let hand = c.in-Some.hand in
    let pop = c.in-Some.ensures in
    let e = c.end-rack.ensures in
    let (rack, pass, counts) = c.end-rack.result in
    let passes = c.push_reserved.ensures in
    let racks = c.push_reserved-in-Some.ensures in
    let more = c.add-sums.ensures in
    let (rest, own) = All-pop (λ h. h.table ≡ c.args.row.now.table) c.loop-hand.hands.items c.pop.new.self.items (Some hand) pop.items i.table in
    let idle = All-push (IsIdleAt c.args.row.now.table) c.loop-hand.passes.items pass i.passes.0 (e.pass.0 ∙ own, e.pass.1) in
    let allocs = ap (λ (s : Sums). s.allocs) more in
    let frees = ap (λ (s : Sums). s.frees) more in
    let nulls = ap (λ (s : Sums). s.nulls) more in
    let busy = ap (λ (s : Sums). s.busy) more in
    let own_allocs = ap (λ (s : Sums). s.allocs) e.sums in
    let own_frees = ap (λ (s : Sums). s.frees) e.sums in
    let own_nulls = ap (λ (s : Sums). s.nulls) e.sums in
    let own_busy = ap (λ (s : Sums). s.busy) e.sums in
    let fewer = pop.cases in
    let right = ap (λ xs. Rattle.std.specs.List.sum_by (λ p. p.right) xs) passes.items ∙ sum_by_push (λ p. p.right) c.loop-hand.passes.items pass in
    let left = ap (λ xs. Rattle.std.specs.List.sum_by (λ p. p.left) xs) passes.items ∙ sum_by_push (λ p. p.left) c.loop-hand.passes.items pass in
    let parts = ap (λ xs. Rattle.std.specs.List.sum_by (λ p. p.parts) xs) passes.items ∙ sum_by_push (λ p. p.parts) c.loop-hand.passes.items pass in
    let held = ap (λ xs. Rattle.std.specs.List.sum_by (λ r. objects r.layer r.aside.items) xs) racks.items ∙ sum_by_push (λ r. objects r.layer r.aside.items) c.loop-hand.racks.items rack in
    record {
      most = omega (arith, fewer, i.most);
      table = rest;
      passes = (All-same (IsIdleAt c.args.row.now.table) _ _ passes.items idle, omega (arith, fewer, passes.len, i.passes.1));
      racks = omega (arith, fewer, racks.len, i.racks);
      room = (omega (arith, passes.capacity, i.room.0), omega (arith, racks.capacity, i.room.1));
      parts = omega (arith, parts, i.parts, e.pass.2, passes.len);
      few_allocs = omega (arith, fewer, allocs, e.few.0, i.few_allocs);
      few_nulls = omega (arith, fewer, nulls, e.few.2, i.few_nulls);
      few_busy = omega (arith, fewer, busy, e.few.3, i.few_busy);
      allocs = omega (arith, allocs, own_allocs, sum_last (λ h. h.counts.allocs) c.loop-hand.hands.items c.pop.new.self.items hand pop.items, i.allocs);
      frees = omega (arith, frees, own_frees, sum_last (λ h. h.counts.frees) c.loop-hand.hands.items c.pop.new.self.items hand pop.items, i.frees);
      nulls = omega (arith, nulls, own_nulls, sum_last (λ h. h.counts.nulls) c.loop-hand.hands.items c.pop.new.self.items hand pop.items, i.nulls);
      busy = omega (arith, busy, own_busy, sum_last (λ h. h.counts.busy) c.loop-hand.hands.items c.pop.new.self.items hand pop.items, i.busy);
      even = omega (arith, right, left, held, allocs, frees, e.even, i.even);
      few_frees = omega (arith, fewer, frees, e.few.1, i.few_frees);
    }
