use Rattle.std.proofs.Common.{◌≡◌, ℕ, ◌+◌, ◌*◌, List, w64, subst, arith}
use Rattle.std.specs.Int.{trailing_zeros}
use Rattle.std.specs.List.{slice_index}
use Rattle.std.proofs.lemmas.Nat.Bits.{bit_at-trailing_zeros}
use Rattle.vmem_arena.specs.Classes.{bit_of}
use Rattle.vmem_arena.proofs.Places.{has_lowest, filled_some, none_before}
use Rattle.vmem_arena.proofs.classes.Classes.next.Goals as goal

pub returns-clause-found : goal.returns-clause-found
returns-clause-found c =
    let words = c.self.inside.words in
    let at = c.in_ok-at.field-0 in
    let here = has_lowest words c.self.inside.filled at c.self.invariant c.in_ok-at.ensures.found.2 (omega arith) in
    let within = here.within in
    let bit = here.bit in
    let from = c.in_ok-at.ensures.found.0 in
    (omega arith, omega arith, subst (λ (ws : List ℕ). bit_of ws (64 * at + trailing_zeros w64 (slice_index words at)) ≡ 1) c.self.view_is here.taken)

pub returns-clause-lowest : goal.returns-clause-lowest
returns-clause-lowest c = λ j from below.
    let words = c.self.inside.words in
    let at = c.in_ok-at.field-0 in
    let some = filled_some words c.self.inside.filled at c.self.invariant c.in_ok-at.ensures.found.2 in
    let bit = bit_at-trailing_zeros w64 (slice_index words at) some (omega arith) in
    subst (λ (ws : List ℕ). bit_of ws j ≡ 0) c.self.view_is (none_before words c.self.inside.filled c.args.from at (trailing_zeros w64 (slice_index words at)) j c.self.invariant c.in_default.ensures.none c.in_ok-at.ensures.lowest bit.2 bit.0 from below)
