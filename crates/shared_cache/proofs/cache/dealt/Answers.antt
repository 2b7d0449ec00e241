use Rattle.std.proofs.Common.{◌≡◌, ◌∙◌, ap, arith}
use Rattle.std.specs.Prelude.{Some}
use Rattle.std.proofs.lemmas.List.Elements.{All-pop, All-push, All-same}
use Rattle.shared_row.specs.Views.{fresh_pass}
use Rattle.shared_cache.specs.HandView.{fresh_hand}
use Rattle.shared_cache.proofs.cache.dealt.Goals as goal

pub loop-pass-preserved : goal.loop-pass-preserved
loop-pass-preserved g c =
    let i = c.loop-pass.invariant in
    let pop = c.in-Some.ensures in
    let push = c.push_reserved.ensures in
    let (rest, own) = All-pop (λ p. p ≡ fresh_pass c.args.row.now.table) c.loop-pass.passes.items c.pop.new.self.items (Some c.in-Some.pass) pop.items i.rest in
    let made = c.in_ok-hand.ensures ∙ ap (λ p. fresh_hand p.table) own in
    record {
      len = omega (arith, i.len, pop.cases, push.len);
      room = push.capacity ∙ i.room;
      rest = rest;
      all = All-same (λ h. h ≡ fresh_hand c.args.row.now.table) c.push_reserved.new.self.items _ push.items (All-push (λ h. h ≡ fresh_hand c.args.row.now.table) c.loop-pass.all.items c.in_ok-hand.hand i.all made);
    }
