use Rattle.std.proofs.Common.{◌≡◌, ◌∙◌, sym, ap}
use Rattle.std.proofs.lemmas.List.Elements.{All-weaker}
use Rattle.shared_cache.specs.PlaceView.{empty_place, ins, outs}
use Rattle.shared_cache.proofs.Weights.{sum_none}
use Rattle.shared_cache.proofs.cache.Cache.new.Goals as goal

pub new-requires-clause-even : goal.new-requires-clause-even
new-requires-clause-even g c =
    let places = c.in_ok-places.places.items in
    let all = c.in_ok-places.ensures.1 in
    sum_none (λ b. outs b.value) places (All-weaker (λ b. b.value ≡ empty_place) (λ b. outs b.value ≡ 0) (λ b is. ap outs is) places all)
    ∙ sym (sum_none (λ b. ins b.value) places (All-weaker (λ b. b.value ≡ empty_place) (λ b. ins b.value ≡ 0) (λ b is. ap ins is) places all))
