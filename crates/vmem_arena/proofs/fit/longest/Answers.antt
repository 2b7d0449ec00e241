use Rattle.std.proofs.Common.{◌%◌, inl, inr, ap, arith}
use Rattle.std.proofs.lemmas.Bool.{cases_lt, cases_eq}
use Rattle.vmem_arena.specs.Segments.{free_len}
use Rattle.vmem_arena.proofs.Listing.{none_listed, none_longer}
use Rattle.vmem_arena.proofs.fit.longest.Goals as goal

pub returns-in_default-clause-longest : goal.returns-in_default-clause-longest
returns-in_default-clause-longest c =
    λ page. let none = none_listed c.args.classes.now c.args.table.now page c.requires.listed (c.requires.short page) c.in_default.ensures.none in omega arith

pub returns-in_default-clause-reached : goal.returns-in_default-clause-reached
returns-in_default-clause-reached c = (0, none_listed c.args.classes.now c.args.table.now 0 c.requires.listed (c.requires.short 0) c.in_default.ensures.none)

pub loop-place-preserved : goal.loop-place-preserved
loop-place-preserved c =
    let table = c.args.table.now in
    let place = c.in-Some-next.place in
    record {
      within = omega (arith, c.in-Some-next.ensures.found.1);
      least = omega (arith, c.loop-place.invariant.least);
      most = λ i start below one. elim (cases_lt i c.loop-place.from) [
        | inl before ↦ omega (arith, c.loop-place.invariant.most i start before one)
        | inr after ↦ elim (cases_eq i place) [
          | inl here ↦ omega (arith, ap (λ k. free_len table (k % 256)) here)
          | inr other ↦ let none = c.in-Some-next.ensures.lowest i after (omega arith) in absurd (omega arith)
        ]
      ];
      reached = elim (cases_lt c.loop-place.longest c.free_at.result) [
        | inl more ↦ (place % 256, omega arith)
        | inr less ↦ (c.loop-place.invariant.reached.0, omega (arith, c.loop-place.invariant.reached.1))
      ];
    }

pub returns-clause-longest : goal.returns-clause-longest
returns-clause-longest c = λ page.
    none_longer c.args.classes.now c.args.table.now c.in-Some.last c.loop-place.longest page c.requires.listed (c.requires.short page) c.in-Some.ensures.found.1 c.in-Some.ensures.highest c.loop-place.invariant.least (λ i start one. elim (cases_lt i c.loop-place.from) [
      | inl before ↦ c.loop-place.invariant.most i start before one
      | inr after ↦ let none = c.in_default-next.ensures.none i after in absurd (omega arith)
    ])
