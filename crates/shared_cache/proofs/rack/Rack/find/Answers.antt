use Rattle.std.proofs.Common.{refl, inr, sym, ◌∙◌, ◌-◌, append-nil}
use Rattle.shared_cache.proofs.Moving.{begins_either, if_ok, on_err}
use Rattle.shared_cache.proofs.Notes.{all_then}
use Rattle.shared_cache.proofs.rack.Rack.find.Goals as goal

pub returns-then-not-refill_anywhere-clause-unchanged : goal.returns-then-not-refill_anywhere-clause-unchanged
returns-then-not-refill_anywhere-clause-unchanged g c = on_err c.supply_at.result _ (c.if-not-refill_anywhere.ensures.same refl, sym (c.in_default.ensures.items ∙ append-nil c.pop.new.self.items))

pub returns-then-not-refill_anywhere-clause-depots : goal.returns-then-not-refill_anywhere-clause-depots
returns-then-not-refill_anywhere-clause-depots g c =
    let asked = c.if-not-refill_anywhere.ensures.asked refl in
    on_err c.supply_at.result _ (all_then _ _ _ (c.args.row.now.places - 1) asked (begins_either c.supply_at.result _ _ _ _ _ _ c.supply_at.ensures.moves))

pub returns-then-not-refill_anywhere-clause-order : goal.returns-then-not-refill_anywhere-clause-order
returns-then-not-refill_anywhere-clause-order g c =
    let asked = c.if-not-refill_anywhere.ensures.asked refl in
    let begins = begins_either c.supply_at.result _ _ _ _ _ _ c.supply_at.ensures.moves in
    if_ok c.supply_at.result _ (λ object none. inr (all_then _ _ _ (c.args.row.now.places - 1) asked begins))
