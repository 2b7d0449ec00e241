use Rattle.std.proofs.Common.{◌≡◌, ◌+◌, ◌-◌, ◌≤◌, ◌%◌, List, length, refl, sym, ap, subst, ◌∙◌, arith}
use Rattle.vmem_arena.specs.declared.segment.Tag.{Tag}
use Rattle.vmem_arena.specs.Spans.{Spans, AreFree}
use Rattle.vmem_arena.specs.Segments.{free_len, IsTable, taken}
use Rattle.vmem_arena.specs.Classes.{IsListed}
use Rattle.vmem_arena.proofs.Steps.{short, within_table, free_pages, no_run, with_span, length-taken, taken_table, taken_out, first_goes, rest_comes}
use Rattle.vmem_arena.proofs.arena.Arena.take.Goals as goal

pub fit-requires-clause-short : goal.fit-requires-clause-short
fit-requires-clause-short c = λ page. short c.self.inside.table page c.self.invariant.0 c.self.invariant.2

pub returns-in_default-clause-none : goal.returns-in_default-clause-none
returns-in_default-clause-none c = λ first free.
    let F : Spans → Type 0 = λ v. AreFree v first c.args.n in
    let less = no_run c.self.inside.table first c.args.n (c.args.n - 1) c.self.invariant.0 (λ page. let below = c.in_default.ensures.none page in omega arith) (subst F (sym c.self.view_is) free) in
    omega (arith, c.requires)

pub cut-requires-clause-within : goal.cut-requires-clause-within
cut-requires-clause-within c = omega (arith, c.requires, c.in-Some.ensures.fits, within_table c.self.inside.table (c.in-Some.place % 256) c.self.invariant.0 (omega (arith, c.requires, c.in-Some.ensures.fits)))

pub overflow_add-first : goal.overflow_add-first
overflow_add-first c = omega (arith, c.requires, c.in-Some.ensures.fits, short c.self.inside.table (c.in-Some.place % 256) c.self.invariant.0 c.self.invariant.2 (omega (arith, c.requires, c.in-Some.ensures.fits)))

pub insert-requires : goal.insert-requires
insert-requires c = omega (arith, c.requires, c.in-Some.ensures.fits, short c.self.inside.table (c.in-Some.place % 256) c.self.invariant.0 c.self.invariant.2 (omega (arith, c.requires, c.in-Some.ensures.fits)))

pub invariant_of-result : goal.invariant_of-result
invariant_of-result c = record { some = c.requires; within = omega (arith, c.requires, c.in-Some.ensures.fits, short c.self.inside.table (c.in-Some.place % 256) c.self.invariant.0 c.self.invariant.2 (omega (arith, c.requires, c.in-Some.ensures.fits))) }

pub invariant_of-self : goal.invariant_of-self
invariant_of-self c =
    let ts = c.self.inside.table in
    let first = c.in-Some.place % 256 in
    let n = c.args.n in
    let rest = c.free_at-len.result - n in
    let whole : n + rest ≡ free_len ts first = omega (arith, c.in-Some.ensures.fits) in
    let within = within_table ts first c.self.invariant.0 (omega (arith, c.requires)) in
    let goes = first_goes ts first n (omega (arith, c.requires)) in
    let comes = rest_comes ts first n rest c.self.invariant.0 c.requires whole in
    let listed = c.insert.ensures (with_span ts first n) (taken ts first n rest) (c.strike.ensures _ ts (with_span ts first n) c.self.invariant.1 refl goes.0 goes.1) comes.0 comes.1 comes.2 in
    let P : List Tag → Type 0 = λ us. IsTable us × IsListed c.insert.new.self us × (length us ≤ 256) in
    subst P (sym c.cut.ensures) (taken_table ts first n rest c.self.invariant.0 c.requires whole, listed, omega (arith, length-taken ts first n rest, c.self.invariant.2))

pub returns-clause-pages : goal.returns-clause-pages
returns-clause-pages c =
    ap length c.cut.ensures ∙ length-taken c.self.inside.table (c.in-Some.place % 256) c.args.n (c.free_at-len.result - c.args.n) ∙ ap (λ (v : Spans). v.pages) c.self.view_is

pub returns-clause-free : goal.returns-clause-free
returns-clause-free c =
    let F : Spans → Type 0 = λ v. AreFree v (c.in-Some.place % 256) c.args.n in
    subst F c.self.view_is (λ page. free_pages c.self.inside.table (c.in-Some.place % 256) c.args.n page c.self.invariant.0 c.in-Some.ensures.fits)

pub returns-clause-out : goal.returns-clause-out
returns-clause-out c =
    let ts = c.self.inside.table in
    let rest = c.free_at-len.result - c.args.n in
    rw (← c.self.view_is, c.cut.ensures) (taken_out ts (c.in-Some.place % 256) c.args.n rest c.self.invariant.0 c.requires (omega (arith, c.in-Some.ensures.fits)))
