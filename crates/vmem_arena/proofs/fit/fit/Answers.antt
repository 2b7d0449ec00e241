use Rattle.std.proofs.Common.{ℕ, ◌^◌, ◌≤◌, Option, Some, None, IfNone, ap, arith}
use Rattle.std.proofs.lemmas.Nat.{one_shl}
use Rattle.vmem_arena.proofs.Listing.{class_low, pow_more, fits_above, none_fits}
use Rattle.vmem_arena.proofs.fit.fit.Goals as goal
use Rattle.vmem_arena.proofs.fit.fit.Goals.{then-n-class, else-n-class}

pub lowest-requires : goal.lowest-requires
lowest-requires c =
    let low = class_low c.ilog2-class.result c.args.n c.ilog2-class.ensures.power_le c.if-n-gt-MAX_PAGES.false in
    elim c.if-n-class.branch [ then-n-class w ↦ omega arith | else-n-class w ↦ omega arith ]

pub walk-requires-clause-start : goal.walk-requires-clause-start
walk-requires-clause-start c =
    let low = class_low c.ilog2-class.result c.args.n c.ilog2-class.ensures.power_le c.if-n-gt-MAX_PAGES.false in
    omega arith

pub returns-in-Some-clause-fits : goal.returns-in-Some-clause-fits
returns-in-Some-clause-fits c =
    let class = c.ilog2-class.result in
    let enough : c.args.n ≤ 2 ^ c.if-n-class.full = elim c.if-n-class.branch [
      | then-n-class w ↦ omega (arith, one_shl class 32 c.ilog2-class.ensures.bound, ap (λ k. 2 ^ k) w.full-is)
      | else-n-class w ↦ omega (arith, pow_more class, ap (λ k. 2 ^ k) w.full-is)
    ] in
    fits_above c.args.classes.now c.args.table.now c.args.n c.if-n-class.full c.in-Some.place c.requires.listed c.in-Some.ensures.found.2 enough c.in-Some.ensures.found.0

none_also : (o : Option ℕ) (P Q : Type 0) → (P → Q) → IfNone o P → IfNone o Q
none_also None P Q then' is = then' is
none_also (Some x) P Q then' is = tt

pub returns-in-None-clause-none : goal.returns-in-None-clause-none
returns-in-None-clause-none c = none_also c.walk.result _ _ (λ none page. none_fits c.args.classes.now c.args.table.now c.args.n c.ilog2-class.result page c.requires.listed (c.requires.short page) c.requires.some c.ilog2-class.ensures.power_le none) c.walk.ensures.none
