use Rattle.std.proofs.Common.{◌≡◌, ◌∙◌, subst, arith}
use Rattle.std.proofs.lemmas.List.Elements.{All-push, All-same}
use Rattle.shared_store.specs.Tools.{AreAtHome}
use Rattle.shared_store.specs.declared.commons.Commons.{Commons}
use Rattle.shared_store.proofs.calling_in.called_in.Goals as goal

pub loop-worker-preserved : goal.loop-worker-preserved
loop-worker-preserved c =
    let i = c.loop-worker.invariant in
    let house = c.args.house.now in
    let tools = c.push_reserved.ensures in
    let homes = c.push_reserved-in-loop-worker.ensures in
    let took = c.in-Ok.ensures in
    let fits = subst (λ (k : Commons). AreAtHome k c.in-Ok.set) house.told took.fits in
    record {
      pairs = omega (arith, tools.len, homes.len, i.pairs);
      len = omega (arith, tools.len, i.len);
      tools = All-same (AreAtHome house.commons) _ _ tools.items (All-push (AreAtHome house.commons) c.loop-worker.tools.items _ i.tools fits);
      homes = All-same (λ h. h.table ≡ house.homes.table) _ _ homes.items (All-push (λ h. h.table ≡ house.homes.table) c.loop-worker.homes.items _ i.homes took.loan.0);
      capacity = (tools.capacity ∙ i.capacity.0, homes.capacity ∙ i.capacity.1);
    }
