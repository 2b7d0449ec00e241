use Rattle.std.proofs.Common.{◌≡◌, ◌<◌, All, [], ℕ, refl, sym, ap, subst, ◌∙◌, arith}
use Rattle.std.specs.Prelude.{vec_len}
use Rattle.std.proofs.lemmas.List.{nil_from_length}
use Rattle.worker_pool.specs.declared.answered.Bundle.{Bundle}
use Rattle.worker_pool.specs.Places.{ArePlaced, AreTheirsPlaced, bundles_of}
use Rattle.worker_pool.proofs.Placing.{all_there, all_weighed, last_bundles, none_placed, theirs_inside}
use Rattle.worker_pool.proofs.place.place_all.Goals.{After-drop-answered}
use Rattle.worker_pool.proofs.place.place_all.Goals as goal

pub loop-one-init : goal.loop-one-init
loop-one-init c = record { len = refl; placed = none_placed _ _ _ c.requires.blank c.requires.inside c.requires.once }

pub place-requires : goal.place-requires
place-requires c =
    let i = c.loop-one.invariant in
    let split = last_bundles c.loop-one.answered.items c.pop.new.self.items c.in-Some.one c.in-Some.ensures.items in
    subst (λ (n : ℕ). All (λ (b : Bundle). b.number < n) c.in-Some.one.bundles.items) (sym i.len) (theirs_inside _ _ _ _ _ _ split i.placed)

pub loop-one-preserved : goal.loop-one-preserved
loop-one-preserved c =
    let i = c.loop-one.invariant in
    let n = vec_len c.args.places.now in
    let all = bundles_of c.args.answered.items in
    let split = last_bundles c.loop-one.answered.items c.pop.new.self.items c.in-Some.one c.in-Some.ensures.items in
    let theirs = subst (λ (k : ℕ). AreTheirsPlaced k c.in-Some.one.bundles.items c.loop-one.places.items c.place.new.places.items) i.len c.place.ensures.placed in record {
      len = c.place.ensures.len ∙ i.len;
      placed = theirs all (bundles_of c.pop.new.self.items) (subst (ArePlaced n all c.loop-one.places.items) split i.placed);
    }

none_left : (c : After-drop-answered) → bundles_of c.loop-one.answered.items ≡ []
none_left c = ap bundles_of (nil_from_length c.loop-one.answered.items (omega (arith, c.in_default.ensures.cases.0, c.loop-one.answered.ok.0)))

pub returns-clause-there : goal.returns-clause-there
returns-clause-there c = all_there _ _ _ _ (none_left c) c.loop-one.invariant.placed

pub returns-clause-weighed : goal.returns-clause-weighed
returns-clause-weighed c = all_weighed _ _ _ _ (none_left c) c.loop-one.invariant.placed
