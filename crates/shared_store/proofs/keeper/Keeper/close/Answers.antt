use Rattle.std.proofs.Common.{◌∙◌, All, subst, sym}
use Rattle.std.proofs.lemmas.List.Elements.{All-push, All-same}
use Rattle.shared_store.specs.Tools.{AreAtHome}
use Rattle.shared_store.specs.declared.house.House.{House}
use Rattle.shared_store.proofs.keeper.Keeper.close.Goals as goal

pub closed-requires-clause-home : goal.closed-requires-clause-home
closed-requires-clause-home c =
    let house = c.in-Ok.ensures.house in
    let tools = c.called_in-all_home.new.tools.items in
    let home = subst (λ (h : House). All (AreAtHome h.commons) tools) (c.deref.ensures ∙ sym house) c.called_in-all_home.ensures.tools in
    let own = subst (λ (h : House). AreAtHome h.commons c.args.self.own) (sym house) c.args.self.of in
    All-same (AreAtHome c.in-Ok.field-0.commons) _ _ c.push_reserved.ensures.items (All-push (AreAtHome c.in-Ok.field-0.commons) tools c.args.self.own home own)
