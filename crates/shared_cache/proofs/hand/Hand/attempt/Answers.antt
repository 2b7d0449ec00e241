use Rattle.std.proofs.Common.{◌≡◌, ℕ, ◌-◌, ◌⊎◌, inl, inr, ap, ◌∙◌, sym, subst, map, length, arith}
use Rattle.std.proofs.lemmas.List.{length-map}
use Rattle.shared_cache.specs.Asking.{AllAsked, FoundFree}
use Rattle.shared_cache.specs.CacheView.{CacheView}
use Rattle.shared_cache.specs.HandView.{HandView}
use Rattle.shared_cache.proofs.Notes.{Notes}
use Rattle.shared_cache.proofs.hand.Hand.attempt.Goals as goal

pub returns-clause-order : goal.returns-clause-order
returns-clause-order g c none =
    let new = c.find.new.pass.notes in
    let notes = ap (λ (h : HandView). h.notes) c.self.view_is in
    let many = ap (λ (v : CacheView). v.hands) c.cache.view_is in
    let places = c.cache.invariant.0 in
    let hands : c.cache.inside.row.places - 1 ≡ c.args.cache.now.hands = omega arith in
    let aside = c.self.inside.rack.aside.items in
    let empty = ap (λ (xs : Rattle.std.proofs.Common.List ℕ). length xs) (ap (λ (h : HandView). h.aside) c.self.view_is ∙ none.1) in
    let found = c.in_ok-object.ensures.order (omega (arith, length-map aside (λ o. o.slot), empty, c.self.inside.rack.aside.ok.0)) in
    subst (λ (p : Notes × ℕ). FoundFree p.0 new p.1 ⊎ AllAsked p.0 new p.1) (λ i. (notes i, hands i)) found
