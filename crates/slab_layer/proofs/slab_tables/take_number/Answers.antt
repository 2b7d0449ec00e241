use Rattle.std.proofs.Common.{◌≡◌, ◌≢◌, ◌<◌, ℕ, ap, length, get_or, vec_len, arith}
use Rattle.slab_layer.proofs.Selecting.{taken_out, times-absent}
use Rattle.slab_layer.proofs.slab_tables.take_number.Goals.{After-loop-i}
use Rattle.slab_layer.proofs.slab_tables.take_number.Goals as goal

pub returns-then-index-number-clause-each : goal.returns-then-index-number-clause-each
returns-then-index-number-clause-each c = λ x.
    let xs = c.loop-i.numbers.items in
    let same = c.loop-i.invariant.same in
    let end : c.len-i-end.result ≡ vec_len c.args.numbers.now = c.len-i-end.ensures in
    let wide : vec_len c.args.numbers.now ≡ length c.args.numbers.now.items = c.args.numbers.now.ok.0 in
    let within : c.loop-i.i < length c.args.numbers.now.items = omega arith in
    let inside : c.loop-i.i < length xs = rw same within in
    rw (c.remove.ensures.items, ← ap (λ v. v.items) same) (taken_out xs c.loop-i.i c.args.number c.index.result.now x inside c.index.ensures c.if-index-number.true)

-- the list has the number, so the loop ends before its end
never : (c : After-loop-i) → ⊥
never c =
    let xs = c.args.numbers.now.items in
    let wide : vec_len c.args.numbers.now ≡ length xs = c.args.numbers.now.ok.0 in
    let none : (k : ℕ) → k < length xs → get_or xs k 0 ≢ c.args.number = λ k within.
    rw (← ap (λ v. v.items) c.loop-i.invariant.same) (c.loop-i.invariant.none k (omega (arith, c.len-i-end.ensures, c.loop-i-test.false, c.loop-i.auto.i-end))) in
    omega (arith, times-absent xs c.args.number none, c.requires)

pub returns-clause-each : goal.returns-clause-each
returns-clause-each c = absurd (never (goal.at.returns-clause-each c).After-loop-i)

pub returns-clause-count : goal.returns-clause-count
returns-clause-count c = absurd (never (goal.at.returns-clause-count c).After-loop-i)
