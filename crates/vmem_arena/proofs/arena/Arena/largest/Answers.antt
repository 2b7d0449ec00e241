use Rattle.std.proofs.Common.{ℕ, sym, subst, arith}
use Rattle.vmem_arena.specs.Spans.{Spans, AreFree}
use Rattle.vmem_arena.proofs.Steps.{short, free_pages, no_run}
use Rattle.vmem_arena.proofs.arena.Arena.largest.Goals as goal

pub longest-requires-clause-short : goal.longest-requires-clause-short
longest-requires-clause-short c = λ page. short c.self.inside.table page c.self.invariant.0 c.self.invariant.2

pub returns-clause-reached : goal.returns-clause-reached
returns-clause-reached c =
    let at = c.longest.ensures.reached in
    let is = at.1 in
    let R : Spans → Type 0 = λ v. (first : ℕ) × AreFree v first c.longest.result in
    subst R c.self.view_is (at.0, λ page low high. free_pages c.self.inside.table at.0 c.longest.result page c.self.invariant.0 (omega arith) low high)

pub returns-clause-longest : goal.returns-clause-longest
returns-clause-longest c = λ first n free.
    let F : Spans → Type 0 = λ v. AreFree v first n in
    no_run c.self.inside.table first n c.longest.result c.self.invariant.0 c.longest.ensures.longest (subst F (sym c.self.view_is) free)
