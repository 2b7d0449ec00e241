use Rattle.std.proofs.Common.{◌≡◌, ◌<◌, ◌++◌, ℕ, Some, None, get_or, length, string_bytes, sym, ap, ◌∙◌, arith, rules}
use Rattle.ebpf_lines.specs.Nearest.{nearest_below}
use Rattle.ebpf_lines.specs.SourceText.{line_in}
use Rattle.ebpf_lines.proofs.Numbers.{none_written, next_written, all_written, next_above}
use Rattle.ebpf_lines.proofs.source_text.write_numbered.Goals as goal

pub loop-line-init : goal.loop-line-init
loop-line-init c =
    (omega arith, none_written c.args.format c.args.counted.name.now c.args.counted.lines c.args.counted.holding.now (λ k. get_or c.args.counted.executed.now k 0) c.args.file _)

pub loop-line-smaller : goal.loop-line-smaller
loop-line-smaller c =
    let counted = c.args.counted in
    let executed = λ (k : ℕ). get_or counted.executed.now k 0 in
    let found : nearest_below counted.holding.now c.args.file c.loop-line.above (length counted.holding.now) ≡ Some c.in-Some.line = sym c.next_line.ensures ∙ c.in-Some.is in
    let lt : c.loop-line.above < c.in-Some.line.line = next_above counted.holding.now c.args.file c.loop-line.above c.in-Some.line found in
    let fits : c.in-Some.line.line < 4294967296 = search rules in
    omega (arith, lt, fits)

pub loop-line-preserved : goal.loop-line-preserved
loop-line-preserved c =
    let counted = c.args.counted in
    let executed = λ (k : ℕ). get_or counted.executed.now k 0 in
    let found : nearest_below counted.holding.now c.args.file c.loop-line.above (length counted.holding.now) ≡ Some c.in-Some.line = sym c.next_line.ensures ∙ c.in-Some.is in
    let fits : c.in-Some.line.line < 4294967296 = search rules in (
      fits,
      (next_written c.args.format counted.name.now counted.lines counted.holding.now executed c.args.file c.loop-line.above c.in-Some.line
          (string_bytes c.args.text.now) _ _ found c.loop-line.invariant.1
          (c.in_ok-write_line_in.ensures ∙ ap (λ (n : ℕ). string_bytes c.loop-line.text ++ line_in c.args.format counted.name.now counted.lines n c.in-Some.line) c.most_executed-count.ensures)).1,
    )

pub returns : goal.returns
returns c =
    let counted = c.args.counted in
    let executed = λ (k : ℕ). get_or counted.executed.now k 0 in
    let found : nearest_below counted.holding.now c.args.file c.loop-line.above (length counted.holding.now) ≡ None = sym c.next_line.ensures ∙ search rules in
    all_written c.args.format counted.name.now counted.lines counted.holding.now executed c.args.file c.loop-line.above (string_bytes c.args.text.now) _ c.loop-line.invariant.0 found
    c.loop-line.invariant.1
