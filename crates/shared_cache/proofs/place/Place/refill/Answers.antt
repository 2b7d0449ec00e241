use Rattle.std.proofs.Common.{length, refl, ap, ◌∙◌, ℕ, List, arith}
use Rattle.homing.proofs.Moving.{list_less}
use Rattle.shared_cache.proofs.Moving.{many}
use Rattle.shared_cache.proofs.place.Place.refill.Goals as goal

pub returns-clause-counted : goal.returns-clause-counted
returns-clause-counted g c =
    let e = c.if-not-refill.ensures in
    let moved = list_less c.refill.new.self.loaded c.self.inside.depot.rounds c.refill.new.depot.rounds (e.rounds refl) in
    let none = ap (λ (l : List ℕ). length l) (e.previous refl ∙ c.requires.0) in
    let had = ap (λ (l : List ℕ). length l) c.requires.0 in
    let old = ap (λ (l : List ℕ). length l) c.requires.1 in
    let was = ap (λ p. length p.depot.rounds) c.self.view_is in
    omega (arith, many c.refill.new.self, many c.args.layer.now, moved, none, had, old, was)
