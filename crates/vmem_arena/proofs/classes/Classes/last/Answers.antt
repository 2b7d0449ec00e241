use Rattle.std.proofs.Common.{◌≡◌, ℕ, ◌+◌, ◌*◌, List, subst, ◌∙◌, arith}
use Rattle.vmem_arena.specs.Classes.{bit_of}
use Rattle.vmem_arena.proofs.Places.{in_words, one_at, bit_of-at, filled_some, none_after}
use Rattle.vmem_arena.proofs.classes.Classes.last.Goals as goal

pub returns-clause-found : goal.returns-clause-found
returns-clause-found c =
    let words = c.self.inside.words in
    let at = c.in_ok-at.field-0 in
    let bit = c.ilog2.result in
    let within = in_words words at (filled_some words c.self.inside.filled at c.self.invariant c.in_ok-at.ensures.found.1) in
    let P : List ℕ → Type 0 = λ ws. bit_of ws (64 * at + bit) ≡ 1 in
    (omega arith, subst P c.self.view_is (bit_of-at words at bit c.ilog2.ensures.bound ∙ one_at _ bit c.ilog2.ensures.power_le c.ilog2.ensures.next_power_gt))

pub returns-clause-highest : goal.returns-clause-highest
returns-clause-highest c =
    let at = c.in_ok-at.field-0 in
    let bit = c.ilog2.result in
    λ j above. subst (λ (ws : List ℕ). bit_of ws j ≡ 0) c.self.view_is (none_after c.self.inside.words c.self.inside.filled at bit j c.self.invariant c.in_ok-at.ensures.highest c.ilog2.ensures.next_power_gt c.ilog2.ensures.bound above)
