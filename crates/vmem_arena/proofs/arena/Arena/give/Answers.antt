use Rattle.std.proofs.Common.{◌≡◌, ℕ, ◌+◌, ◌-◌, ◌≤◌, List, length, refl, sym, ap, subst, ◌∙◌, arith}
use Rattle.std.specs.List.{Contains}
use Rattle.std.proofs.lemmas.Bool.{false≢true}
use Rattle.vmem_arena.specs.declared.segment.Tag.{Tag}
use Rattle.vmem_arena.specs.Spans.{Spans, pages_of}
use Rattle.vmem_arena.specs.Segments.{free_len, IsTable, IsOut, without, freed}
use Rattle.vmem_arena.specs.Classes.{IsListed}
use Rattle.vmem_arena.proofs.Outs.{outs_of, outs_has}
use Rattle.vmem_arena.proofs.Listing.{free-without_other}
use Rattle.vmem_arena.proofs.Steps.{IsLow, low_read, high_within, length-freed, freed_table, freed_back, low_goes, whole_comes}
use Rattle.vmem_arena.proofs.arena.Arena.give.Goals.{After-free_at-low, After-free_at-high}
use Rattle.vmem_arena.proofs.arena.Arena.give.Goals as goal

pub returns-then-not-is_out-clause-known : goal.returns-then-not-is_out-clause-known
returns-then-not-is_out-clause-known c =
    let K : Spans → Type 0 = λ v. Contains v.out (pages_of c.args.span) in (
      λ is. absurd (false≢true is),
      λ has.
          let at = outs_of c.self.inside.table 0 c.args.span.first c.args.span.len (subst K (sym c.self.view_is) has) in
          let P : ℕ → Type 0 = λ page. IsOut c.self.inside.table page c.args.span.len in
          let same : at.0 ≡ c.args.span.first = omega (arith, at.1) in
          let is = c.is_out.ensures.1 (subst P same at.2) in
          absurd (false≢true (sym c.if-not-is_out.true ∙ is)),
    )

-- what is free below the span
below : (c : After-free_at-low) → IsLow c.self.inside.table c.args.span.first c.free_at-low.result
below c =
    let out = c.is_out.ensures.0 c.if-not-is_out.false in
    (low_read c.self.inside.table c.args.span.first c.args.span.len c.before-2.result c.free_at-low.result c.self.invariant.0 out
    c.args.span.some c.before-2.ensures c.free_at-low.ensures).1

-- and above it
above : (c : After-free_at-high) → c.args.span.first + c.args.span.len + c.free_at-high.result ≤ length c.self.inside.table
above c =
    let out = c.is_out.ensures.0 c.if-not-is_out.false in
    omega (arith, high_within c.self.inside.table c.args.span.first c.args.span.len c.self.invariant.0 out c.args.span.some, c.free_at-high.ensures)

pub overflow_sub-at : goal.overflow_sub-at
overflow_sub-at c =
    let out = c.is_out.ensures.0 c.if-not-is_out.false in
    (low_read c.self.inside.table c.args.span.first c.args.span.len c.before-2.result (free_len c.self.inside.table (c.args.span.first - c.before-2.result)) c.self.invariant.0 out c.args.span.some c.before-2.ensures refl).0

pub overflow_sub-first : goal.overflow_sub-first
overflow_sub-first c =
    (below (goal.at.overflow_sub-first c).After-free_at-low).back

pub overflow_sub-first-2 : goal.overflow_sub-first-2
overflow_sub-first-2 c =
    (below (goal.at.overflow_sub-first-2 c).After-free_at-low).back

pub merge-requires-clause-low : goal.merge-requires-clause-low
merge-requires-clause-low c =
    (below (goal.at.merge-requires-clause-low c).After-free_at-low).back

pub remove-requires : goal.remove-requires
remove-requires c =
    let low = (below (goal.at.remove-requires c).After-free_at-low).back in
    omega (arith, c.args.span.within)

pub merge-requires-clause-within : goal.merge-requires-clause-within
merge-requires-clause-within c =
    omega (arith, above (goal.at.merge-requires-clause-within c).After-free_at-high)

pub remove-requires-2 : goal.remove-requires-2
remove-requires-2 c =
    omega (arith, above (goal.at.remove-requires-2 c).After-free_at-high, c.self.invariant.2)

pub overflow_add-low : goal.overflow_add-low
overflow_add-low c =
    let low = (below (goal.at.overflow_add-low c).After-free_at-low).back in
    omega (arith, c.args.span.within)

pub overflow_add-low-2 : goal.overflow_add-low-2
overflow_add-low-2 c =
    let low = (below (goal.at.overflow_add-low-2 c).After-free_at-low).back in
    omega (arith, above (goal.at.overflow_add-low-2 c).After-free_at-high, c.self.invariant.2)

pub insert-requires : goal.insert-requires
insert-requires c =
    let low = (below (goal.at.insert-requires c).After-free_at-low).back in
    omega (arith, above (goal.at.insert-requires c).After-free_at-high, c.self.invariant.2)

pub invariant_of-self : goal.invariant_of-self
invariant_of-self c =
    let ts = c.self.inside.table in
    let first = c.args.span.first in
    let len = c.args.span.len in
    let low = c.free_at-low.result in
    let high = c.free_at-high.result in
    let out = c.is_out.ensures.0 c.if-not-is_out.false in
    let below = (low_read ts first len c.before-2.result low c.self.invariant.0 out c.args.span.some c.before-2.ensures c.free_at-low.ensures).1 in
    let above = sym c.free_at-high.ensures in
    let apart = free-without_other ts (first - low) low (first + len) (omega (arith, c.args.span.some)) in
    let us = without ts (first - low) low in
    let goes = low_goes ts (first - low) low below.is in
    let goes_too = low_goes us (first + len) high (apart ∙ above) in
    let comes = whole_comes ts first low len high out c.args.span.some below above in
    let listed = c.remove-2.ensures us (without us (first + len) high) (c.remove.ensures ts us c.self.invariant.1 below.is goes.0 goes.1) (apart ∙ above) goes_too.0 goes_too.1 in
    let P : List Tag → Type 0 = λ vs. IsTable vs × IsListed c.insert.new.self vs × (length vs ≤ 256) in
    subst P (sym c.merge.ensures) (
      freed_table ts first low len high c.self.invariant.0 out c.args.span.some below above,
      c.insert.ensures (without us (first + len) high) (freed ts first low len high) listed comes.0 comes.1 comes.2,
      omega (arith, length-freed ts first low len high, c.self.invariant.2),
    )

pub returns-clause-pages : goal.returns-clause-pages
returns-clause-pages c =
    ap length c.merge.ensures ∙ length-freed c.self.inside.table c.args.span.first c.free_at-low.result c.args.span.len c.free_at-high.result ∙ ap (λ (v : Spans). v.pages) c.self.view_is

pub returns-clause-known : goal.returns-clause-known
returns-clause-known c =
    let K : Spans → Type 0 = λ v. Contains v.out (pages_of c.args.span) in
    (λ _. subst K c.self.view_is (outs_has c.self.inside.table c.args.span.first c.args.span.len (c.is_out.ensures.0 c.if-not-is_out.false)), λ _. refl)

pub returns-clause-back : goal.returns-clause-back
returns-clause-back c =
    let out = c.is_out.ensures.0 c.if-not-is_out.false in
    let below = below (goal.at.returns-clause-back c).After-free_at-low in
    λ _. rw (← c.self.view_is, c.merge.ensures) (freed_back c.self.inside.table c.args.span.first c.free_at-low.result c.args.span.len c.free_at-high.result c.self.invariant.0 out c.args.span.some below (sym c.free_at-high.ensures))
