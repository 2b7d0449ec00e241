use Rattle.std.proofs.Common.{◌≡◌, ℕ, List, [], ◌∷◌, ◌++◌, ◌∙◌, Some, length, length-append, refl, ap, arith}
use Rattle.std.specs.Prelude.{vec_len}
use Rattle.std.specs.List.{concat}
use Rattle.std.proofs.lemmas.List.Elements.{All-pop}
use Rattle.std.proofs.lemmas.List.Sorted.{length_permutation}
use Rattle.magazine.proofs.Rounds.{popped_rounds, pushed_rounds, moved_rounds}
use Rattle.magazine.proofs.depot.Depot.move_full.Goals as goal

pub returns-clause-moved : goal.returns-clause-moved
returns-clause-moved g c = λ _.
    let left = popped_rounds c.args.self.now c.self.inside.full.items c.pop.new.self.items (vec_len c.self.inside.empty) c.in-Some.magazine c.in-Some.magazine c.self.view_is c.in-Some.ensures.items refl in
    omega (arith, length_permutation _ _ left, length-append c.in-Some.magazine (concat c.pop.new.self.items), (All-pop (λ m. length m ≡ g.K.Kind.ROUNDS) c.self.inside.full.items c.pop.new.self.items (Some c.in-Some.magazine) c.in-Some.ensures.items c.self.invariant.filled).1)

pub returns-clause-came : goal.returns-clause-came
returns-clause-came g c = λ _.
    let pushed : c.push_reserved.new.self.items ≡ c.to.inside.full.items ++ c.in-Some.magazine ∷ [] =
    c.push_reserved.ensures.items ∙ ap (λ (ms : List (List ℕ)). ms ++ c.in-Some.magazine ∷ []) c.in_ok-reserve.ensures.items in
    let came = pushed_rounds c.args.to.now c.to.inside.full.items c.push_reserved.new.self.items (vec_len c.to.inside.empty) c.in-Some.magazine c.in-Some.magazine c.to.view_is pushed refl in
    omega (arith, length_permutation _ _ came, length-append c.in-Some.magazine c.args.to.now.rounds, (All-pop (λ m. length m ≡ g.K.Kind.ROUNDS) c.self.inside.full.items c.pop.new.self.items (Some c.in-Some.magazine) c.in-Some.ensures.items c.self.invariant.filled).1)

pub returns-clause-rounds : goal.returns-clause-rounds
returns-clause-rounds g c =
    let left = popped_rounds c.args.self.now c.self.inside.full.items c.pop.new.self.items (vec_len c.self.inside.empty) c.in-Some.magazine c.in-Some.magazine c.self.view_is c.in-Some.ensures.items refl in
    let pushed : c.push_reserved.new.self.items ≡ c.to.inside.full.items ++ c.in-Some.magazine ∷ [] =
    c.push_reserved.ensures.items ∙ ap (λ (ms : List (List ℕ)). ms ++ c.in-Some.magazine ∷ []) c.in_ok-reserve.ensures.items in
    let came = pushed_rounds c.args.to.now c.to.inside.full.items c.push_reserved.new.self.items (vec_len c.to.inside.empty) c.in-Some.magazine c.in-Some.magazine c.to.view_is pushed refl in
    moved_rounds c.args.self.now.rounds (concat c.pop.new.self.items) c.args.to.now.rounds (concat c.push_reserved.new.self.items) c.in-Some.magazine left came
