use Rattle.std.proofs.Common.{◌≡◌, ◌⊎◌, inl, inr, Bool, true, false, length, refl, ap, ℕ, List, arith}
use Rattle.magazine.specs.LayerView.{rounds_of}
use Rattle.homing.proofs.Moving.{list_more}
use Rattle.shared_cache.proofs.Moving.{many}
use Rattle.shared_cache.proofs.place.Place.relieve.Goals as goal

pub returns-then-relieve-clause-counted : goal.returns-then-relieve-clause-counted
returns-then-relieve-clause-counted g c =
    let e = c.if-relieve.ensures in
    let moved = list_more c.args.layer.now.previous c.self.inside.depot.rounds c.relieve.new.depot.rounds (e.rounds refl) in
    let none = ap (λ (l : List ℕ). length l) (e.loaded refl) in
    let same = ap (λ (l : List ℕ). length l) (e.previous refl) in
    let was = ap (λ p. length p.depot.rounds) c.self.view_is in
    omega (arith, many c.relieve.new.self, many c.args.layer.now, moved, none, same, was)

pub returns-then-add_empty-clause-counted : goal.returns-then-add_empty-clause-counted
returns-then-add_empty-clause-counted g c =
    let first = c.relieve.ensures.unchanged c.if-relieve.false in
    let e = c.relieve-then-add_empty.ensures in
    let rounds = ap (λ l. length (rounds_of l)) first.0 in
    let depot = ap (λ d. length d.rounds) first.1 in
    let was = ap (λ p. length p.depot.rounds) c.self.view_is in
    let between = ap (λ p. length p.depot.rounds) c.self-2.view_is in
    let kept = ap (λ (l : List ℕ). length l) c.add_empty.ensures.rest.0 in
    elim (both c.relieve-then-add_empty.result) [
      | inl made ↦
          let moved = list_more c.relieve.new.self.previous c.self-2.inside.depot.rounds c.relieve-then-add_empty.new.depot.rounds (e.rounds made) in
          let none = ap (λ (l : List ℕ). length l) (e.loaded made) in
          let same = ap (λ (l : List ℕ). length l) (e.previous made) in
          omega (arith, many c.relieve-then-add_empty.new.self, many c.relieve.new.self, moved, none, same, was, between, kept, rounds, depot)
      | inr failed ↦
          let same = e.unchanged failed in
          let now = ap (λ l. length (rounds_of l)) same.0 in
          let place = ap (λ d. length d.rounds) same.1 in
          omega (arith, now, place, was, between, kept, rounds, depot)
    ]
  where
    both : (b : Bool) → (b ≡ true) ⊎ (b ≡ false)
    both true = inl refl
    both false = inr refl
