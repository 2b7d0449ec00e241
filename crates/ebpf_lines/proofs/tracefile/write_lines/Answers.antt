use Rattle.std.proofs.Common.{◌≡◌, ◌<◌, Some, None, length, refl, sym, ◌∙◌, arith, rules}
use Rattle.ebpf_lines.specs.Nearest.{nearest_below}
use Rattle.ebpf_lines.specs.Traced.{trace_of}
use Rattle.ebpf_lines.proofs.Totalling.{lower, text_first, totals_first, text_next, totals_next, text_last, totals_last}
use Rattle.ebpf_lines.proofs.tracefile.write_lines.Goals as goal

pub loop-line-init : goal.loop-line-init
loop-line-init c = (omega arith, text_first (trace_of c.args.traced) c.args.file _, totals_first (trace_of c.args.traced) c.args.file _ refl refl refl refl)

pub loop-line-smaller : goal.loop-line-smaller
loop-line-smaller c =
    let found : nearest_below c.args.traced.holding.now c.args.file c.loop-line.above (length c.args.traced.holding.now) ≡ Some c.in-Some.line = sym c.next_line.ensures ∙ c.in-Some.is in
    let lt : c.loop-line.above < c.in-Some.line.line = lower (trace_of c.args.traced) c.args.file c.loop-line.above c.in-Some.line found in
    let fits : c.in-Some.line.line < 4294967296 = search rules in
    omega (arith, lt, fits)

pub loop-line-preserved : goal.loop-line-preserved
loop-line-preserved c =
    let t = trace_of c.args.traced in
    let found : nearest_below c.args.traced.holding.now c.args.file c.loop-line.above (length c.args.traced.holding.now) ≡ Some c.in-Some.line = sym c.next_line.ensures ∙ c.in-Some.is in
    let fits : c.in-Some.line.line < 4294967296 = search rules in (
      fits,
      text_next t c.args.file c.loop-line.above c.in-Some.line found _ _ _ c.loop-line.invariant.1 c.in_ok-write_line.ensures.text,
      totals_next t c.args.file c.loop-line.above c.in-Some.line found _ _ c.loop-line.invariant.2 c.in_ok-write_line.ensures.totals,
    )

pub returns-clause-text : goal.returns-clause-text
returns-clause-text c =
    let found : nearest_below c.args.traced.holding.now c.args.file c.loop-line.above (length c.args.traced.holding.now) ≡ None = sym c.next_line.ensures ∙ search rules in
    text_last (trace_of c.args.traced) c.args.file c.loop-line.above c.loop-line.invariant.0 found _ _ c.loop-line.invariant.1

pub returns-clause-totals : goal.returns-clause-totals
returns-clause-totals c =
    let found : nearest_below c.args.traced.holding.now c.args.file c.loop-line.above (length c.args.traced.holding.now) ≡ None = sym c.next_line.ensures ∙ search rules in
    totals_last (trace_of c.args.traced) c.args.file c.loop-line.above c.loop-line.invariant.0 found _ c.loop-line.invariant.2
