use Rattle.std.proofs.Common.{◌≡◌, ◌-◌, inl, inr, ap, ◌∙◌, map, arith}
use Rattle.shared_cache.specs.CacheView.{CacheView}
use Rattle.shared_cache.specs.HandView.{HandView}
use Rattle.shared_cache.proofs.Notes.{busy_as, found_as}
use Rattle.shared_cache.proofs.hand.Hand.flush.Goals as goal

pub returns-clause-why : goal.returns-clause-why
returns-clause-why g c =
    let notes = ap (λ (h : HandView). h.notes) c.self.view_is in
    let many = ap (λ (v : CacheView). v.hands) c.cache.view_is in
    let places = c.cache.invariant.0 in
    let hands : c.cache.inside.row.places - 1 ≡ c.args.cache.now.hands = omega arith in
    elim c.send_home.ensures.why [
      | inl busy ↦ inl (busy_as _ _ _ _ _ notes hands busy.0, busy.1 ∙ ap (λ (h : HandView). h.layer) c.self.view_is, ap (λ os. map (λ o. o.slot) os) busy.2 ∙ ap (λ (h : HandView). h.aside) c.self.view_is)
      | inr found ↦ inr (found_as _ _ _ _ _ 0 notes hands found)
    ]
