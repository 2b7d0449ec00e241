use Rattle.std.proofs.Common.{◌≡◌, ◌∙◌, arith}
use Rattle.std.specs.Prelude.{Some}
use Rattle.std.proofs.lemmas.List.Elements.{All-pop}
use Rattle.shared_store.specs.Tools.{AreAtHome}
use Rattle.shared_store.proofs.calling_in.sent_back.Goals as goal

pub loop-home-preserved : goal.loop-home-preserved
loop-home-preserved c =
    let i = c.loop-home.invariant in
    let house = c.args.house.now in
    let pop = c.in-Some.ensures in
    let last = c.take_last-set.ensures in
    record {
      pairs = omega (arith, pop.cases, last.len, i.pairs);
      tools = (All-pop (AreAtHome house.commons) c.loop-home.tools.items c.take_last-set.new.self.items (Some c.take_last-set.result) last.items i.tools).0;
      homes = (All-pop (λ h. h.table ≡ house.homes.table) c.loop-home.homes.items c.pop.new.self.items (Some c.in-Some.home) pop.items i.homes).0;
      capacity = (last.capacity ∙ i.capacity.0, pop.capacity ∙ i.capacity.1);
    }
