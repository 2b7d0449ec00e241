use Rattle.std.proofs.Common.{◌≡◌, ℕ, ◌-◌, ◌⊎◌, inl, inr, ap, subst, arith}
use Rattle.shared_cache.specs.Asking.{WasAsked, WasBusy, Begins}
use Rattle.shared_cache.specs.CacheView.{CacheView}
use Rattle.shared_cache.specs.HandView.{HandView}
use Rattle.shared_cache.specs.Faults.{IsGiven}
use Rattle.shared_cache.proofs.Notes.{Notes, asked_then, busy_then, given_after}
use Rattle.shared_cache.proofs.cache.Cache.reap.Goals as goal

still : (old mid new : Notes) (k slabs : ℕ) → Begins mid new → WasAsked old mid k ⊎ WasBusy old mid slabs → WasAsked old new k ⊎ WasBusy old new slabs
still old mid new k slabs then (inl a) = inl (asked_then old mid new k a then)
still old mid new k slabs then (inr b) = inr (busy_then old mid new slabs b then)

pub returns-clause-depots : goal.returns-clause-depots
returns-clause-depots g c =
    let many = ap (λ (v : CacheView). v.hands) c.self.view_is in
    let places = c.self.invariant.0 in
    let hands : c.self.inside.row.places - 1 ≡ c.args.self.now.hands = omega arith in
    let notes = ap (λ (h : HandView). h.notes) c.hand.view_is in
    λ k below. subst (λ (p : Notes × ℕ). WasAsked p.0 c.give_pages_at.new.pass.notes k ⊎ WasBusy p.0 c.give_pages_at.new.pass.notes p.1) (λ i. (notes i, hands i))
    (still _ _ _ k (c.self.inside.row.places - 1) c.give_pages_at.ensures.moves.notes (c.drain_all.ensures.why k (omega arith)))

pub returns-clause-given : goal.returns-clause-given
returns-clause-given g c =
    let many = ap (λ (v : CacheView). v.hands) c.self.view_is in
    let places = c.self.invariant.0 in
    let hands : c.self.inside.row.places - 1 ≡ c.args.self.now.hands = omega arith in
    let notes = ap (λ (h : HandView). h.notes) c.hand.view_is in
    subst (λ (old : Notes). IsGiven c.give_pages_at.result c.args.self.now.hands old c.give_pages_at.new.pass.notes c.args.pages.now.notes c.give_pages_at.new.pages.notes) notes
    (given_after c.give_pages_at.result (c.self.inside.row.places - 1) c.args.self.now.hands _ _ _ _ _ hands c.drain_all.ensures.moves.notes c.give_pages_at.ensures.why)
