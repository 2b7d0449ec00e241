use Rattle.std.proofs.Common.{rules, tests, ◌≡◌, ℕ, ◌-◌, ◌==◌, ◌<◌, ◌≤◌, length, sym, arith}
use Rattle.std.proofs.lemmas.Iterator.Consumers.{YieldsList-turn, YieldsList-end}
use Rattle.std.proofs.lemmas.Iterator.Splits.{YieldsList-from_slice_split}
use Rattle.ebpf_reader.specs.ScriptLines.{script_lines}
use Rattle.ebpf_reader.proofs.LinesLemmas.{line_at, line_past}
use Rattle.ebpf_script.proofs.script_fault.numbered_line.Goals as goal

pub returns-then-place-index : goal.returns-then-place-index
returns-then-place-index c =
    let turn = YieldsList-turn (YieldsList-from_slice_split _ (λ (b : ℕ). b == 10) c.args.script.now (cc) (cc) (cc) (λ x r q k. search (rules, tests))) c.loop-line.yielded _ c.loop-line.yielded_by _ _ c.in-Some.line c.in-Some.is c.next.ensures.steps in
    let lines = script_lines c.args.script.now in
    let inside : c.loop-line.place < length lines = omega (arith, turn.0, c.loop-line.invariant.counted) in
    let here = rw (← c.loop-line.invariant.counted) at turn.1 in
    let same : c.loop-line.place ≡ c.args.number - 1 = omega (arith, c.if-place-index.true, c.saturating_sub-index.ensures) in
    line_at lines c.in-Some.line.now c.loop-line.place (c.args.number - 1) inside here same

pub returns : goal.returns
returns c =
    let all = YieldsList-end (YieldsList-from_slice_split _ (λ (b : ℕ). b == 10) c.args.script.now (cc) (cc) (cc) (λ x r q k. search (rules, tests))) c.loop-line.yielded _ c.loop-line.yielded_by _ _ c.in-None.is c.next.ensures.steps in
    let lines = script_lines c.args.script.now in
    let past : length lines ≤ c.args.number - 1 =
    omega (arith, all.1, c.loop-line.invariant.counted, c.loop-line.invariant.before, c.saturating_sub-index.ensures) in
    sym (line_past lines (c.args.number - 1) past)
